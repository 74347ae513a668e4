-- Request six, "Capture time", by TIFF 6.0 and Exif, over a block that is a list of bytes. The modules stand in its order.
-- No axiom and no premise is used.

-- `II` or `MM`, 42, where the first directory is.
pub mod Header
-- A directory's entries, the first with a tag, and its value.
pub mod Directory
-- A date and a time of day.
pub mod Time
-- A fraction in lowest terms.
pub mod Fraction
-- The steps in reading order, over a block, and over an image.
pub mod Capture
-- The line that is printed.
pub mod Line
