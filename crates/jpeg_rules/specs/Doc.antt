-- Request three, as functions that compute over an image that is a list of bytes. Outcomes, bytes, walks and answers are those of document 01
-- (crates/rules). No axiom and no premise is used.

-- From FF D8 to the block.
pub mod Segments
pub mod Block
-- Bytes consulted.
pub mod Consulted
-- The reader above both formats.
pub mod Either
