-- What the test of an `ftyp` says, in document 01's numbers.
use Rattle.std.specs.Prelude.{Result}
use Rattle.rules.specs.Doc.Outcomes.{Outcome}
use Rattle.rules.specs.Results.{outcome}
use Rattle.boxes.specs.Told.{number}
use Rattle.boxes.specs.declared.refusal.Refusal.{Refusal}

abbrev pub ftyp_of : Result (Unit {0}) Refusal → Outcome (Unit {0})
ftyp_of = outcome number (λ u. u)
