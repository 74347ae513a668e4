-- A step that refuses only with numbers of a table, and that steps in a row and walks do if each of their steps does.
use Prim.Native.Nat.{ℕ, zero, suc}
use Rattle.std.specs.Prelude.{Bool, true, false, if◌then◌else◌}
use Rattle.std.proofs.Math.Option.{Option, none, some}
use Rattle.rules.specs.Doc.Outcomes.{Outcome, fine, refused, ◌>>=◌, require, given}
use Rattle.rules.specs.Doc.Walks.{Then, onward, halt, Step, over, cut, met, End, ended, cut_at, refused_at, stopped_at, Walk, bare, walked, judged, after, run, outcome}
use Rattle.rules.specs.Laws.Rows.{by_test}

pub data Within (Table : ℕ → Type 0) {A : Type 0} : Outcome A → Type 0 where
  went : {x : A} → Within Table (fine x)
  with_number : {n : ℕ} → Table n → Within Table (refused n)

module _ {Table : ℕ → Type 0} where
  pub row : {A B : Type 0} (o : Outcome A) (f : A → Outcome B) → Within Table o → ((x : A) → Within Table (f x)) → Within Table (o >>= f)
  row (fine x) f p q = q x
  row (refused n) f (with_number p) q = with_number p

  pub require_numbered : (t : Bool) (n : ℕ) → Table n → Within Table (require t n)
  require_numbered true n p = went
  require_numbered false n p = with_number p

  pub given_numbered : {A : Type 0} (o : Option A) (n : ℕ) → Table n → Within Table (given o n)
  given_numbered none n p = with_number p
  given_numbered (some x) n p = went

  pub either : {A : Type 0} (t : Bool) (x y : Outcome A) → Within Table x → Within Table y → Within Table (if t then x else y)
  either t x y p q = by_test (Within Table) t (λ e. p) (λ e. q)

-- a larger table
pub within_larger : {A : Type 0} {Table Larger : ℕ → Type 0} → ((n : ℕ) → Table n → Larger n) → (o : Outcome A) → Within Table o → Within Larger o
within_larger f (fine x) p = went
within_larger f (refused n) (with_number p) = with_number (f n p)

-- ---- Walks

pub data WithinStep (Table : ℕ → Type 0) {A : Type 0} : Step A → Type 0 where
  at_end : WithinStep Table over
  at_cut : {n : ℕ} → Table n → WithinStep Table (cut n)
  at_thing : {x : A} {v : Outcome Then} → Within Table v → WithinStep Table (met x v)

pub data WithinEnd (Table : ℕ → Type 0) {A : Type 0} : End A → Type 0 where
  in_end : WithinEnd Table ended
  in_cut : {n at : ℕ} → Table n → WithinEnd Table (cut_at n at)
  in_thing : {n : ℕ} {x : A} → Table n → WithinEnd Table (refused_at n x)
  in_stop : {x : A} → WithinEnd Table (stopped_at x)

module _ {Table : ℕ → Type 0} {A : Type 0} where
  judged_numbered : (x : A) (v : Outcome Then) (go : ℕ → Walk A) → Within Table v → ((q : ℕ) → WithinEnd Table (go q).end)
      → WithinEnd Table (judged x v go).end
  unfolding judged bare
  judged_numbered x (fine (onward next)) go p q = q next
  judged_numbered x (fine halt) go p q = in_stop
  judged_numbered x (refused n) go (with_number p) q = in_thing p

  after_numbered : (at : ℕ) (st : Step A) (go : ℕ → Walk A) → WithinStep Table st → ((q : ℕ) → WithinEnd Table (go q).end)
      → WithinEnd Table (after at st go).end
  unfolding after walked bare
  after_numbered at over go p q = in_end
  after_numbered at (cut n) go (at_cut p) q = in_cut p
  after_numbered at (met x v) go (at_thing p) q = judged_numbered x v go p q

  pub run_numbered : (step : ℕ → Step A) → ((at : ℕ) → WithinStep Table (step at)) → (n at : ℕ) → WithinEnd Table (run step n at).end
  unfolding run bare
  run_numbered step p zero at = in_end
  run_numbered step p (suc n) at = after_numbered at (step at) (run step n) (p at) (run_numbered step p n)

  pub outcome_numbered : (e : End A) → WithinEnd Table e → Within Table (outcome e)
  unfolding outcome
  outcome_numbered ended p = went
  outcome_numbered (cut_at n at) (in_cut p) = with_number p
  outcome_numbered (refused_at n x) (in_thing p) = with_number p
  outcome_numbered (stopped_at x) p = went
