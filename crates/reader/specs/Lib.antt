-- Which reader answers, that the contract determines the outcome, and what it alone shows.
pub mod Taken
pub mod Unique
pub mod Demands
