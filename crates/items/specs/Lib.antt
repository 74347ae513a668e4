-- What the answers say, how the wanted id is left, and that each contract determines the answer.
pub mod Told
pub mod Wanted
pub mod Unique
