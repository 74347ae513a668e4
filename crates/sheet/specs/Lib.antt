-- The lines counted; what is written of the counts; an input by its front; and that each contract determines the outcome.
pub mod Counting
pub mod Printed
pub mod Fronts
pub mod Unique
