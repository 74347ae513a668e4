-- What the code's fraction says, and that each contract determines the answer.
pub mod Told
pub mod Unique
