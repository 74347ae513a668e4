-- What is demanded of the whole, as theorems over request three's definitions. One: the output buffer, how large the answer can be, and that a block
-- stands in an Exif segment. Three: bytes that are not consulted have no say; Unconsulted: two such bytes. Front: a block that the front of a
-- file has is the file's. Each is said of the JPEG reader, and all but Unconsulted and where a block stands of the reader above both formats too.
pub mod One
pub mod Three
pub mod Unconsulted
pub mod Front
