-- What the test says, what its two loops follow, and that each contract determines the answer.
pub mod Told
pub mod Brands
pub mod Unique
