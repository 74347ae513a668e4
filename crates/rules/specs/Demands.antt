-- What is demanded of the whole, as theorems over document 01's definitions. One: the output buffer. Two has no file here: that each function
-- answers as the definitions say is its own contract, and that they say what the Rust does is shown by runs (docs/COMPARISON.md). Three: bytes
-- that are not consulted have no say.
-- Of the listing: it goes by the boxes that extraction walks (Listed), and its numbers can be read back (Digits).
pub mod One
pub mod Three
pub mod Unconsulted
pub mod Listed
pub mod Digits
