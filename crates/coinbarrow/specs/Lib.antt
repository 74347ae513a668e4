-- The number's two halves, how an answer is packed into them, what callers may count on, and that each contract determines the outcome.
pub mod Halves
pub mod Packed
pub mod Callers
pub mod Unique
