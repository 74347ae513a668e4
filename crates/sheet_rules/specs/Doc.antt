-- Request fourteen, "The morning sheet", as functions that compute over an input that is a list of bytes.
-- No axiom and no premise is used.

-- A line of names and numbers: every line that is read or printed is one.
pub mod Rows
-- The lines of an input, and the shape of one.
pub mod Lines
-- The counts and the totals, and what is printed.
pub mod Sheet
