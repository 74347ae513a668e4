-- The text of both numbers, and that the contract determines it.
pub mod Numbers
pub mod Unique
