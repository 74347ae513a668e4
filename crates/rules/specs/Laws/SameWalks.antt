-- Agreement goes through a walk, whatever its things are: with the same bytes at each step, the same things are met, and the walk ends the same way.
use Rattle.std.specs.Prelude.{◌≡◌}
use Rattle.std.proofs.Math.Path.{refl, ap}
use Rattle.std.proofs.Common.{◌∙◌}
use Prim.Native.Nat.{ℕ, zero, suc}
use mathlib.Core.List.{List, [], ◌++◌}
use Rattle.rules.specs.Doc.Outcomes.{Outcome, fine, refused}
use Rattle.rules.specs.Doc.Lists.{each}
use Rattle.rules.specs.Doc.Walks.{Then, onward, halt, Step, over, cut, met, Walk, bare, walked, judged, after, run}
use Rattle.rules.specs.Doc.Consulted.{end_bytes, walk_bytes, Agree}
use Rattle.rules.specs.Laws.Agreement.{agree_left, agree_right, agree_both}

-- `thing` says what is read of a thing that was met, `gap` what is read where nothing whole stands
module _ {A : Type 0} (thing : A → List ℕ) (gap : ℕ → List ℕ) where
  -- what a step reads
  unfoldable pub step_bytes : ℕ → Step A → List ℕ
  step_bytes at over = []
  step_bytes at (cut k) = gap at
  step_bytes at (met x v) = thing x

  module _ (a b : List ℕ) where
    judged_same : (x : A) (v : Outcome Then) (f g : ℕ → Walk A) → ((q : ℕ) → Agree a b (walk_bytes thing gap (f q)) → f q ≡ g q)
        → Agree a b (walk_bytes thing gap (judged x v f)) → judged x v f ≡ judged x v g
    unfolding judged
    judged_same x (fine (onward next)) f g ih ag = ih next ag
    judged_same x (fine halt) f g ih ag = refl
    judged_same x (refused k) f g ih ag = refl

    after_same : (at : ℕ) (st y : Step A) (f g : ℕ → Walk A) → (Agree a b (step_bytes at st) → st ≡ y)
        → ((q : ℕ) → Agree a b (walk_bytes thing gap (f q)) → f q ≡ g q)
        → Agree a b (walk_bytes thing gap (after at st f)) → after at st f ≡ after at y g
    unfolding after walked bare walk_bytes end_bytes step_bytes each
    after_same at over y f g same ih ag = ap (λ (z : Step A). after at z g) (same tt)
    after_same at (cut k) y f g same ih ag = ap (λ (z : Step A). after at z g) (same ag)
    after_same at (met x v) y f g same ih ag =
        let w : Walk A = judged x v f in
        let first : List ℕ = thing x in
        let more : List ℕ = each thing w.list in
        let tail : List ℕ = end_bytes gap w.end in
        let front : Agree a b (first ++ more) = agree_left a b (first ++ more) tail ag in
        let rest : Agree a b (more ++ tail) = agree_both a b more tail (agree_right a b first more front) (agree_right a b (first ++ more) tail ag) in
        ap (walked x) (judged_same x v f g ih rest) ∙ ap (λ (z : Step A). after at z g) (same (agree_left a b first more front))

    -- One law for every walk: where two images agree on the bytes of a walk over the first, and a step is the same if they agree on its own bytes, the
    -- walk over the second is the same.
    pub run_same : (s t : ℕ → Step A) → ((p : ℕ) → Agree a b (step_bytes p (s p)) → s p ≡ t p)
        → (m p : ℕ) → Agree a b (walk_bytes thing gap (run s m p)) → run s m p ≡ run t m p
    unfolding run
    run_same s t same zero p ag = refl
    run_same s t same (suc m) p ag = after_same p (s p) (t p) (run s m) (run t m) (same p) (run_same s t same m) ag
