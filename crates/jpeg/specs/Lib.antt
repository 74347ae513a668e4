-- What the answers say, what each function follows, how the parts make the whole, that each contract determines the outcome, and what that of
-- `get_exif_attr` alone shows.
pub mod Told
pub mod Markers
pub mod Exif
pub mod Begins
pub mod Bodies
pub mod Leads
pub mod Search
pub mod Whole
pub mod Unique
pub mod Demands
pub mod Useless
