-- What the number that `coinbarrow_exif` or `coinbarrow_photo` gives back says to a caller.
use Rattle.std.specs.Prelude.{ℕ, ◌/◌, ◌%◌, ◌^◌, List}
use Rattle.rules.specs.Doc.Answers.{Answer}

-- the answer's number in the upper half, the length in the lower; with the output after the call
abbrev pub unpacked : ℕ → List ℕ → Answer
unpacked r out = record { number = r / 2 ^ 32; length = r % 2 ^ 32; output = out }
