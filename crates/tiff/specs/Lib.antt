-- What the answers say, the laws that the proofs and the callers cite, and that each contract determines the answer.
pub mod Told
-- the header by cases; the entries of a directory inside the block, and the first with a tag
pub mod Headers
pub mod Entries
pub mod Unique
