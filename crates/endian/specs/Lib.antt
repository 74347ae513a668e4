-- What the byte order says, and that the contract of a load determines the number.
pub mod Told
pub mod Unique
