-- What the program may count on.
pub mod Within
