-- Request six, "Capture time": its sentences as definitions that compute, their cases, laws about them, and what is claimed of whatever is
-- handed out.
pub mod Doc
pub mod Unfold
pub mod Cases
pub mod Days
pub mod Examples
pub mod Laws
pub mod Demands
