-- The line of a case, laws about its parts, and that the contract determines it.
pub mod Line
pub mod Parts
pub mod Unique
