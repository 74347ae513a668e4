-- What is claimed of whatever is handed out, as theorems over request six's definitions.
-- Of a block: the date is a date, the bias is in lowest terms, and both stand in the block.
pub mod Block
-- Of an image: the same, and its refusals, the length of its line, and that pictures have no say.
pub mod Photo
-- What a refusal means where more than one thing is wrong.
pub mod Order
