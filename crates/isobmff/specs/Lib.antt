-- What the answers say, what the two loops follow, how the parts make the whole, and what the contract of `get_exif_attr` alone shows.
pub mod Told
pub mod Top
pub mod Children
pub mod Whole
pub mod Unique
pub mod Demands
pub mod Useless
