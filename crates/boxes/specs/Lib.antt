-- What the answers say, what a loop over boxes needs to know of one, and that each contract determines the answer.
pub mod Told
pub mod Loops
pub mod Unique
