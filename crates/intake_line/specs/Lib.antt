-- The line of a file, what is claimed of the lines, how they come from the answer of extraction, and that each contract determines the outcome.
pub mod Line
pub mod Demands
pub mod Told
pub mod Unique
