-- Document 01, "HEIF boxes to Exif block", whose rules docs/RULES.md tells, as functions that compute over an image that is a list of bytes. The
-- modules stand in its order.
-- No axiom and no premise is used.

-- What its sentences are made of.
pub mod Outcomes
pub mod Lists
pub mod Bytes
pub mod Endian
pub mod Walks
-- "Box headers".
pub mod Headers
pub mod Levels
-- "From ftyp to the block": step 1; 2; 3 and 6; 4 and 5; 7 and 8; 9; 10; `is_heif`.
pub mod Ftyp
pub mod Meta
pub mod Children
pub mod Iinf
pub mod Iloc
pub mod Join
pub mod Block
pub mod Heif
-- "Numbers given back", and "Bytes consulted".
pub mod Answers
pub mod Consulted
-- "The listing", and what its text is made of.
pub mod Text
pub mod Listing
