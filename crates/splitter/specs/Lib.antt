-- What a splitter answers and what it has left, how many boxes there are, what the answers say, cases, and that each contract determines the outcome.
pub mod Front
pub mod Behind
pub mod Taken
pub mod Left
pub mod Children
pub mod Counting
pub mod Told
pub mod FrontBox
pub mod Cases
pub mod Unique
