-- What holds of every thing that a step can meet holds of every thing that a walk met.
use Prim.Native.Nat.{ℕ, zero, suc}
use Rattle.rules.specs.Doc.Outcomes.{Outcome, fine, refused}
use Rattle.rules.specs.Doc.Walks.{Then, onward, halt, Step, over, cut, met, Walk, bare, walked, judged, after, run}
use Rattle.rules.specs.Laws.Lies.{All}

module _ {A : Type 0} (P : A → Type 0) where
  abbrev pub Meets : Step A → Type 0
  Meets over = Unit {0}
  Meets (cut n) = Unit {0}
  Meets (met x v) = P x

  judged_all : (x : A) (v : Outcome Then) (go : ℕ → Walk A) → ((q : ℕ) → All P (go q).list) → All P (judged x v go).list
  unfolding judged bare
  judged_all x (fine (onward next)) go q = q next
  judged_all x (fine halt) go q = tt
  judged_all x (refused n) go q = tt

  after_all : (at : ℕ) (st : Step A) (go : ℕ → Walk A) → Meets st → ((q : ℕ) → All P (go q).list) → All P (after at st go).list
  unfolding after walked bare
  after_all at over go p q = tt
  after_all at (cut n) go p q = tt
  after_all at (met x v) go p q = (p, judged_all x v go q)

  pub run_all : (step : ℕ → Step A) → ((at : ℕ) → Meets (step at)) → (n at : ℕ) → All P (run step n at).list
  unfolding run bare
  run_all step p zero at = tt
  run_all step p (suc n) at = after_all at (step at) (run step n) (p at) (run_all step p n)
