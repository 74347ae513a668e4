-- What a program may count on: both lengths of a case are within its buffers, so that parts of them can be lent.
use Rattle.std.specs.Prelude.{ℕ, ◌≤◌, Option, Some, None}
use Rattle.case_reader.specs.declared.Case.{Case}

abbrev pub Within : ℕ → ℕ → Option Case → Type 0
Within images outs (Some case) = (case.image_len ≤ images) × (case.out_len ≤ outs)
Within images outs None = Unit
