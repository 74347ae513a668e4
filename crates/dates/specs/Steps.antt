-- Bytes compared with a pattern one after another, as the code does it.
use Rattle.std.specs.Prelude.{◌≡◌, refl, Bool, true, false, ◌&&◌, List, [], ◌∷◌, ℕ, length}
use Rattle.std.specs.List.{list_all, zip}
use Rattle.std.proofs.Common.{ap, arith}
use Rattle.capture_rules.specs.Doc.Time.{fits, alike}
use Rattle.capture_rules.specs.Laws.Shape.{alike_length}

-- as many bytes, and each fits its place
pub alike_each : (p s : List ℕ) → length p ≡ length s → list_all (λ (q : ℕ × ℕ). fits q.0 q.1) (zip p s) ≡ alike p s
unfolding alike
alike_each [] [] h = refl
alike_each [] (c ∷ cs) h = absurd (omega arith)
alike_each (p ∷ ps) [] h = absurd (omega arith)
alike_each (p ∷ ps) (c ∷ cs) h = ap (λ t. fits p c && t) (alike_each ps cs (omega arith))

pub alike_longer : (p s : List ℕ) → (length p ≡ length s → ⊥) → false ≡ alike p s
alike_longer p s n = go (alike p s) refl
  where
    go : (t : Bool) → alike p s ≡ t → false ≡ t
    go true e = absurd (n (alike_length p s e))
    go false e = refl
