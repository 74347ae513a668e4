-- What it is to write a text, and that each contract determines the outcome.
pub mod Wrote
pub mod Unique
