-- Step 9 over bytes: the total, extent by extent.
use Rattle.std.specs.Prelude.{◌≡◌, ℕ, ◌+◌, ◌-◌, ◌≤◌, ◌<◌, Bool, true, false, ltb, if◌then◌else◌}
use Rattle.std.proofs.Math.Path.{refl}
use native.Mathlib.Omega.{arith}
use mathlib.Core.List.{List, [], ◌∷◌, ◌++◌}
use Rattle.std.proofs.Math.ListN.{length}
use Rattle.std.proofs.Common.{length-append, lt-ltb, le-ltb, ltb-false}
use Rattle.rules.specs.Doc.Outcomes.{Outcome, fine, refused, ◌>>=◌}
use Rattle.rules.specs.Doc.Lists.{each}
use Rattle.rules.specs.Doc.Bytes.{Span, size_of}
use Rattle.rules.specs.Doc.Iloc.{Extent}
use Rattle.rules.specs.Laws.Rows.{apart, bind_fine}
use Rattle.rules.specs.Laws.Numbers.{part_length}
use Rattle.rules.specs.Laws.Places.{EndsIn}
use Rattle.rules.specs.OverBytes.{part_of, gathered, added, total_from}

-- ---- One part more

module _ (total from to : ℕ) where
  pub added_over : 65535 < total + (to - from) → refused 24 ≡ added total (fine (record { from = from; to = to }))
  unfolding added
  added_over h = rw (lt-ltb 65535 (total + (to - from)) h)

  pub added_more : total + (to - from) ≤ 65535 → fine (total + (to - from)) ≡ added total (fine (record { from = from; to = to }))
  unfolding added
  added_more h = rw (le-ltb 65535 (total + (to - from)) h)

-- a total that is not refused is not above 65,535
pub added_below : (total : ℕ) (o : Outcome Span) {t : ℕ} → fine t ≡ added total o → t ≤ 65535
unfolding added
added_below total (refused n) e = absurd (apart e)
added_below total (fine p) {t} e = go (ltb 65535 (total + size_of p)) refl e
  where
    go : (b : Bool) → ltb 65535 (total + size_of p) ≡ b → fine t ≡ (if b then refused 24 else fine (total + size_of p)) → t ≤ 65535
    go true f e = absurd (apart e)
    go false f e =
        let k : t ≡ total + size_of p = cc in
        omega (arith, ltb-false 65535 (total + size_of p) f)

-- nor is the total of all extents
pub total_below : (place : Extent → Outcome Span) (t₀ : ℕ) (xs : List Extent) {t : ℕ} → t₀ ≤ 65535 → fine t ≡ total_from place t₀ xs → t ≤ 65535
unfolding total_from
total_below place t₀ [] {t} h e =
    let k : t ≡ t₀ = cc in
    omega arith
total_below place t₀ (x ∷ xs) h e =
    let (u, f, g) = bind_fine (added t₀ (place x)) (λ u. total_from place u xs) e in
    total_below place u xs (added_below t₀ (place x) f) g

-- in a pass over extents: T is the total of all, and those from here on decide it
module _ (place : Extent → Outcome Span) (t : ℕ) {xs : List Extent} {T : Outcome ℕ} (inv : total_from place t xs ≡ T) where
  pub total_done : xs ≡ [] → fine t ≡ T
  unfolding total_from
  total_done e = rw e at inv

  -- the next extent, and where it lies
  module _ {x : Extent} {ys : List Extent} (e : xs ≡ x ∷ ys) {o : Outcome Span} (q : o ≡ place x) where
    total_first : (added t o >>= λ u. total_from place u ys) ≡ T
    unfolding total_from
    total_first = rw (e, ← q) at inv

    pub total_stop : {n : ℕ} → refused n ≡ added t o → refused n ≡ T
    total_stop w = rw (← w) at total_first

    pub total_next : {u : ℕ} → fine u ≡ added t o → total_from place u ys ≡ T
    total_next w = rw (← w) at total_first

-- ---- The total is the length of the joined bytes

module _ (place : Extent → Outcome Span) (s : List ℕ) (inside : (x : Extent) → EndsIn (length s) (place x)) where
  pub total_is : (t₀ t : ℕ) (xs : List Extent) → fine t ≡ total_from place t₀ xs → t ≡ t₀ + length (gathered place s xs)
  unfolding total_from gathered each added part_of
  total_is t₀ t [] h =
      let e : t₀ ≡ t = cc in
      omega arith
  total_is t₀ t (x ∷ xs) h = go (λ u. total_is u t xs) (place x) refl h
    where
      Later : Type 0
      Later = (u : ℕ) → fine t ≡ total_from place u xs → t ≡ u + length (gathered place s xs)

      more : Later → (p : Span) → p.to ≤ length s → (b : Bool)
          → fine t ≡ ((if b then refused 24 else fine (t₀ + size_of p)) >>= λ u. total_from place u xs)
          → t ≡ t₀ + length (part_of s (fine p) ++ gathered place s xs)
      more later p k true h = absurd (apart h)
      more later p k false h = simp length-append (omega (arith, later (t₀ + size_of p) h, part_length s p k))

      go : Later → (o : Outcome Span) → place x ≡ o → fine t ≡ (added t₀ o >>= λ u. total_from place u xs)
          → t ≡ t₀ + length (part_of s o ++ gathered place s xs)
      go later (refused n) e h = absurd (apart h)
      go later (fine p) e h = more later p (inside x p e) (ltb 65535 (t₀ + size_of p)) h
