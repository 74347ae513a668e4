-- What the answers say: the wanted id, or document 01's number.
use Rattle.std.proofs.Math.Option as math
use Rattle.std.specs.Prelude.{ℕ, Option, Result}
use Rattle.rules.specs.Doc.Outcomes.{Outcome}
use Rattle.rules.specs.Results.{outcome, perhaps}
use Rattle.boxes.specs.Told.{number}
use Rattle.boxes.specs.declared.refusal.Refusal.{Refusal}

abbrev pub id_of : Option ℕ → math.Option ℕ
id_of = perhaps (λ v. v)

abbrev pub ids_of : Result (Option ℕ) Refusal → Outcome (math.Option ℕ)
ids_of = outcome number id_of
