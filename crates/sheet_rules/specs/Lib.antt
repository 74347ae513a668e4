-- Request fourteen, "The morning sheet": its sentences as definitions that compute, their cases, laws about them, and what is claimed of a sheet.
pub mod Doc
pub mod Unfold
pub mod Cases
pub mod Laws
pub mod Demands
