-- Laws of request six's definitions: what the proofs of the code cite, and what is claimed of a date and of a fraction. No axiom and no premise is used.

-- bytes of the shape of a date: their length, and digits where the numbers stand
pub mod Shape
-- a date that is handed out is one of the calendar
pub mod Calendar
-- what is printed of a date is what stood there
pub mod TimeText
-- Euclid's algorithm gives the greatest common divisor
pub mod Euclid
-- four bytes as a signed number
pub mod Signs
-- a fraction in lowest terms: its value is kept, and no number above 1 divides both its parts
pub mod Lowest
-- how long the line is
pub mod LineText
-- the numbers that can be given
pub mod Faults
