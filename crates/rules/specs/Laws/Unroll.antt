-- The equation that a reader expects of a walk from a position: one step, and the walk after it. Proofs use this, and nothing after it looks at how
-- many steps `run` allows.
use Rattle.std.specs.Prelude.{◌≡◌, ℕ, suc, ◌-◌, ◌≤◌, ◌<◌, List, length}
use Rattle.std.proofs.Math.Path.{refl, ap}
use Rattle.std.proofs.Common.{arith, le-leb}
use Rattle.rules.specs.Doc.Outcomes.{fine, refused}
use Rattle.rules.specs.Doc.Walks.{onward, halt, Step, over, cut, met, Walk, walked, judged, after, run}
use Rattle.rules.specs.Doc.Headers.{Box}
use Rattle.rules.specs.Doc.Levels.{Level, level_step, boxes}
use Rattle.rules.specs.Laws.Rows.{enough}
use Rattle.rules.specs.Laws.BoxRow.{Reads, reads_ahead, step_reads}

-- a step that goes on leads forward
abbrev pub Forward : {A : Type 0} → ℕ → Step A → Type 0
Forward at over = Unit {0}
Forward at (cut n) = Unit {0}
Forward at (met x (refused n)) = Unit {0}
Forward at (met x (fine halt)) = Unit {0}
Forward at (met x (fine (onward next))) = at < next

-- ---- Any walk over n bytes whose steps lead forward, and are over where no byte is left

module _ {A : Type 0} (step : ℕ → Step A) (n : ℕ) (forward : (at : ℕ) → Forward at (step at)) (done : (at : ℕ) → n ≤ at → step at ≡ over) where
  after_cong : (at : ℕ) (st : Step A) → Forward at st → (f g : ℕ → Walk A) → ((q : ℕ) → at < q → f q ≡ g q) → after at st f ≡ after at st g
  unfolding after judged
  after_cong at over p f g e = refl
  after_cong at (cut k) p f g e = refl
  after_cong at (met x (refused k)) p f g e = refl
  after_cong at (met x (fine halt)) p f g e = refl
  after_cong at (met x (fine (onward next))) p f g e = ap (walked x) (e next p)

  pub unroll : (at : ℕ) → run step n at ≡ after at (step at) (run step n)
  unfolding run after
  unroll at =
      enough (run step) (λ at. n - at) (λ k at z. rw (done at (omega arith)))
      (λ k m at e. after_cong at (step at) (forward at) (run step k) (run step m) (λ q j. e q (omega arith)))
      n (suc n) at (omega arith) (omega arith)

-- ---- Boxes, at any level

module _ (l : Level) (s : List ℕ) where
  reads_forward : (at : ℕ) (st : Step Box) → Reads l s at st → Forward at st
  reads_forward at over p = tt
  reads_forward at (cut n) p = tt
  reads_forward at (met b (refused n)) p = tt
  reads_forward at (met b (fine halt)) p = tt
  reads_forward at (met b (fine (onward next))) p = reads_ahead l s at next p

  level_over : (at : ℕ) → length s ≤ at → level_step l s at ≡ over
  unfolding level_step
  level_over at h = rw (le-leb (length s) at h)

  pub boxes_unroll : (at : ℕ) → boxes l s at ≡ after at (level_step l s at) (boxes l s)
  unfolding boxes
  boxes_unroll at = unroll (level_step l s) (length s) (λ at. reads_forward at (level_step l s at) (step_reads l s at)) level_over at
