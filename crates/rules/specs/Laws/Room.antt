-- The room is the last test, whether the output is long enough for the block, else 28. What comes before it refuses neither with 0, the number of
-- success, nor with 28.
use Rattle.std.specs.Prelude.{◌≡◌, refl, ℕ, ◌<◌, Bool, true, false, List, length, leb, if◌then◌else◌}
use Rattle.std.proofs.Common.{arith, leb-false}
use Rattle.rules.specs.Doc.Outcomes.{Outcome, fine, refused}
use Rattle.rules.specs.Doc.Answers.{answer_with}
use Rattle.rules.specs.Laws.Numbered.{Within, with_number}

abbrev pub NeitherNumber : ℕ → Type 0
NeitherNumber n = (n ≡ 0 → ⊥) × (n ≡ 28 → ⊥)

abbrev pub Early : {A : Type 0} → Outcome A → Type 0
Early = Within NeitherNumber

-- 28 carries the length that is needed, which is not 0
pub room_length : (out bytes : List ℕ) (o : Outcome (List ℕ)) → Early o → (answer_with out bytes o).number ≡ 28 → 0 < (answer_with out bytes o).length
unfolding answer_with
room_length out bytes (refused n) (with_number p) e = absurd (p.1 e)
room_length out bytes (fine ps) p e = go (leb (length ps) (length out)) refl e
  where
    go : (t : Bool) → leb (length ps) (length out) ≡ t → ◌≡◌ {A = ℕ} (if t then 0 else 28) 28 → 0 < length ps
    go true f e = absurd (omega arith)
    go false f e = omega (arith, leb-false (length ps) (length out) f)
