-- Where a thing ended a walk, a step met that thing and said so.
use Rattle.std.proofs.Math.Path.{◌≡◌, refl, ap}
use Rattle.std.proofs.Common.{◌∙◌, arith}
use Prim.Native.Nat.{ℕ, zero, suc}
use Rattle.rules.specs.Doc.Outcomes.{fine, refused}
use Rattle.rules.specs.Doc.Walks.{onward, halt, Step, over, cut, met, Walk, stopped_at, bare, walked, judged, after, run}

module _ {A : Type 0} (step : ℕ → Step A) (x : A) where
  abbrev Met : Type 0
  Met = (p : ℕ) × (step p ≡ met x (fine halt))

  after_met : (at : ℕ) (st : Step A) (go : ℕ → Walk A) → step at ≡ st → ((q : ℕ) → (go q).end ≡ stopped_at x → Met) → (after at st go).end ≡ stopped_at x → Met
  unfolding after walked judged bare
  after_met at over go f later e = absurd (let z : ◌≡◌ {A = ℕ} 0 1 = cc in omega arith)
  after_met at (cut k) go f later e = absurd (let z : ◌≡◌ {A = ℕ} 0 1 = cc in omega arith)
  after_met at (met y (refused k)) go f later e = absurd (let z : ◌≡◌ {A = ℕ} 0 1 = cc in omega arith)
  after_met at (met y (fine halt)) go f later e =
      let z : y ≡ x = cc in
      (at, f ∙ ap (λ (y : A). met y (fine halt)) z)
  after_met at (met y (fine (onward next))) go f later e = later next e

  pub stopped_met : (n at : ℕ) → (run step n at).end ≡ stopped_at x → (p : ℕ) × (step p ≡ met x (fine halt))
  unfolding run bare
  stopped_met zero at e = absurd (let z : ◌≡◌ {A = ℕ} 0 1 = cc in omega arith)
  stopped_met (suc n) at e = after_met at (step at) (run step n) refl (stopped_met n) e
