-- Request three, "JPEG from older cameras": its sentences as definitions that compute, their cases, laws about them, and the demands as theorems.
pub mod Doc
pub mod Unfold
pub mod Cases
pub mod Laws
pub mod Demands
