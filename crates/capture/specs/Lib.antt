-- What the answers say; from extraction to the photo; that each contract determines the answer.
pub mod Told
pub mod Photo
pub mod Unique
