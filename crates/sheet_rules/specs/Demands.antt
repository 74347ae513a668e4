-- What is claimed of a sheet, as theorems over request fourteen's definitions.
-- The files of all answers sum to the total.
pub mod Files
-- Lines and sheets, printed and counted again.
pub mod Again
-- How much of an input has to be read.
pub mod Buffer
