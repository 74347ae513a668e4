-- What the answers say, what each function says by its reads, what is known of a location, and that each contract determines the answer.
pub mod Parts
pub mod Told
pub mod Reads
pub mod Located
pub mod Unique
