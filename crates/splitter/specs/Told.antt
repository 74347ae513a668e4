-- What the answers say: the values, or document 01's number.
use Rattle.std.specs.Prelude.{ℕ, List, Result, Option}
use Rattle.std.specs.Borrow.{Bor}
use Rattle.std.proofs.Math.Option as math
use Rattle.rules.specs.Doc.Outcomes.{Outcome}
use Rattle.rules.specs.Results.{outcome, perhaps}
use Rattle.boxes.specs.Told.{number}
use Rattle.boxes.specs.declared.refusal.Refusal.{Refusal}
use Rattle.splitter.specs.declared.splitter.BoxSplitter.{BoxSplitter}

-- the bytes behind a splitter
abbrev pub held : BoxSplitter → List ℕ
held b = b.inner.now

abbrev pub sized_of : Result (Option ℕ) Refusal → Outcome (math.Option ℕ)
sized_of = outcome number (perhaps (λ v. v))

abbrev pub full_box_of : Result (ℕ × ℕ) Refusal → Outcome (ℕ × ℕ)
full_box_of = outcome number (λ v. v)

abbrev pub array4_of : Result (List ℕ) Refusal → Outcome (List ℕ)
array4_of = outcome number (λ a. a)

abbrev pub piece_of : Result (Bor (List ℕ)) Refusal → Outcome (List ℕ)
piece_of = outcome number (λ p. p.now)

-- of a box, its type and its body
abbrev pub child_of : Result (ℕ × BoxSplitter) Refusal → Outcome (ℕ × List ℕ)
child_of = outcome number (λ c. (c.0, held c.1))
