-- What the answers say, which boxes are opened, the turns of a run, what it is to write the lines, the whole text, and that each contract determines
-- the outcome.
pub mod Told
pub mod Openings
pub mod Turns
pub mod Lines
pub mod Whole
pub mod Unique
