-- What is read of a name and a number, and of a line; and that the contract determines the answer.
pub mod Numbers
pub mod Shape
pub mod Unique
