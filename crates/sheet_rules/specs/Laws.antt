-- Laws of request fourteen's definitions: what the theorems and the proofs of the code cite. No axiom and no premise is used.

-- bytes that are the same
pub mod Same
-- where the digits of a number end; a line of names and numbers; the lines of an input; the shape of one
pub mod Digits
pub mod Rows
pub mod Lines
pub mod Shape
-- what an input says line by line; input that was read; counts and totals with one entry more
pub mod Entries
pub mod Read
pub mod Counts
-- how long a sheet can be
pub mod SheetLength
