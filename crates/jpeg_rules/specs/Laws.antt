-- Laws that the proofs cite.
-- the numbers that can be given
pub mod Refusals
-- where the marker byte stands
pub mod Marker
-- agreement of two images
pub mod SameSegments
-- the segment that ended the walk and where the block lies in it, and the longest block
pub mod Stopped
pub mod Limit
-- JPEG and HEIF apart, and which reader answers
pub mod Apart
pub mod Asked
