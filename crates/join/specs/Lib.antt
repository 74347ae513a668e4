-- What the answers say, each answer's law, and that the contract of `extract_item` determines the outcome.
pub mod Told
pub mod Answers
pub mod Methods
pub mod Unique
