-- Laws that the proofs cite, so that they need not open a definition.
-- steps in a row
pub mod Rows
-- numbers in either byte order, numbers and fields
pub mod Endian
pub mod Numbers
pub mod Fields
-- a header, and the decision over the size case by case
pub mod Headers
pub mod Decision
-- the boxes of a walk that ended well, in a row; walks without a count of steps; what ended one was met; boxes one by one; the last one kept; where
-- they lie
pub mod BoxRow
pub mod Unroll
pub mod Stops
pub mod Fold
pub mod Last
pub mod Lies
-- what holds of every thing that a walk met
pub mod Walked
-- an entry's extents, and the entry that is chosen
pub mod Extents
pub mod Entries
-- where an extent lies, the total, a copy over several parts
pub mod Places
pub mod Totals
pub mod Over
-- every value that the Rust asks about before it makes a `usize` of it is below 2^64
pub mod Addressed
-- the join over bytes and over positions, the answer by the parts that each function is lent, the longest block
pub mod Gather
pub mod Lent
pub mod Limit
-- agreement of two images
pub mod Agreement
pub mod SameWalks
pub mod SameBoxes
-- the numbers that can be given, of any table; what comes before the room; those of document 01; the one answer for what is told
pub mod Numbered
pub mod Room
pub mod Refusals
pub mod Back
-- numbers as text
pub mod Text
-- a box in a part of the bytes
pub mod Moved
-- the listing box by box, over boxes in a row, and how long it can be
pub mod Listing
pub mod ListingRow
pub mod ListingLength
