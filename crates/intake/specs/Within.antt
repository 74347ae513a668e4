-- What was read of a file is shorter than the buffer, so that it can be lent; a file that fills the buffer is too long.
use Rattle.std.specs.Prelude.{ℕ, ◌<◌, Option, Some, None}

abbrev pub Within : ℕ → Option ℕ → Type 0
Within room (Some n) = n < room
Within room None = Unit
