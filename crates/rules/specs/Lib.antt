-- Document 01 as definitions, its cases, the laws that proofs cite, what is demanded of it all, and what the answers of the code say in its words.
pub mod Doc
pub mod Unfold
pub mod Cases
pub mod OverBytes
pub mod Laws
pub mod Demands
pub mod Results
