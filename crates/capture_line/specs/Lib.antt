-- Which dates and lines can be printed, and that each contract determines the outcome.
pub mod Printable
pub mod Unique
