-- What a program may count on, what a case takes of the input, and what the contracts determine.
pub mod Within
pub mod Taken
pub mod Unique
