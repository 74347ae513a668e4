-- What the answers say, what it is to copy, each answer's law for a block that is there, that each contract determines the outcome, and demands 1 and
-- 3 for every call that answers for a block.
pub mod Told
pub mod Copied
pub mod Answers
pub mod Unique
pub mod Demands
