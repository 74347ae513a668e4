-- What the answers say: the number, the length, and the output after the call.
use Rattle.std.specs.Prelude.{ℕ, List, Result, Ok, Err}
use Rattle.rules.specs.Doc.Answers.{Answer}
use Rattle.boxes.specs.Told.{number}
use Rattle.output.specs.declared.NoBlock.{NoBlock}
use Rattle.output.specs.declared.NoBlock.TheVariants.{NoRoom, Refused}

-- the code's name for it
abbrev pub Extracted : Type 0
Extracted = Result ℕ NoBlock

abbrev pub told : Extracted → List ℕ → Answer
told (Ok n) out = record { number = 0; length = n; output = out }
told (Err (NoRoom n)) out = record { number = 28; length = n; output = out }
told (Err (Refused r)) out = record { number = number r; length = 0; output = out }
