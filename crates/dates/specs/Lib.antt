-- What the answer says, what the code follows, and that the contract determines the answer.
pub mod Told
pub mod Steps
pub mod Unique
