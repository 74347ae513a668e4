-- The extents of an entry: they share their sizes, so the first one is judged for all, and each can be read again.
use Rattle.std.specs.Prelude.{◌≡◌, Bool, List, ◌∷◌, drop, if◌then◌else◌}
use Rattle.std.proofs.Math.Path.{refl, ap₂}
use Rattle.std.proofs.Common.{ap, ◌∙◌, suc-mul}
use Rattle.std.proofs.Math.Bool.{true, false}
use Prim.Native.Nat.{ℕ, zero, suc, ◌+◌, ◌*◌, ◌≤◌, ◌<◌}
use native.Mathlib.Omega.{arith}
use Rattle.std.proofs.Math.Nat.{zero-mul, add-zero}
use Rattle.std.proofs.Math.Numerals.{add-one}
use Rattle.std.proofs.Math.ListN.{length}
use Rattle.std.proofs.Math.Dec.{leb}
use borrow.Author.Tests.{le-leb, lt-leb, leb-true, leb-false}
use Rattle.rules.specs.Doc.Outcomes.{Outcome, fine, refused, ◌>>=◌, require}
use Rattle.rules.specs.Doc.Bytes.{number_at, field, sized}
use Rattle.rules.specs.Doc.Walks.{Walk, bare, walked, judged, after, run, outcome}
use Rattle.rules.specs.Doc.Iloc.{Sizes, Entry, Extent, extent_width, extent_at, extent_met, extents}
use Rattle.rules.specs.Laws.Rows.{apart, bind_fine, bind_cong}
use Rattle.rules.specs.Laws.Fields.{Is048, small048, sized_field, sized_stands}

-- half-bytes, as all sizes are
pub record Small (z : Sizes) : Type 0 where
  pub index : z.index < 16
  pub offset : z.offset < 16
  pub length : z.length < 16

-- sizes that are judged for a wanted item
pub record Judged (z : Sizes) : Type 0 where
  pub index : Is048 z.index
  pub offset : Is048 z.offset
  pub length : Is048 z.length

pub judged_small : {z : Sizes} → Judged z → Small z
judged_small h = record { index = small048 h.index; offset = small048 h.offset; length = small048 h.length }

-- ---- One extent

-- of two bounds that must hold in a row, the farther one decides
require_far : {A : Type 0} (o : Outcome A) (a b n : ℕ) → a ≤ b
    → (require (leb a n) 3 >>= λ u. require (leb b n) 3 >>= λ v. o) ≡ (require (leb b n) 3 >>= λ v. o)
require_far o a b n h = go (leb a n) refl
  where
    go : (t : Bool) → leb a n ≡ t → (require t 3 >>= λ u. require (leb b n) 3 >>= λ v. o) ≡ (require (leb b n) 3 >>= λ v. o)
    go true e = refl
    go false e = rw (lt-leb b n (omega (arith, leb-false a n e)))

field_then : {A : Type 0} (s : List ℕ) (at n : ℕ) (f : ℕ → Outcome A)
    → (field s at n >>= f) ≡ (require (leb (at + n) (length s)) 3 >>= λ u. f (number_at s at n))
unfolding field
field_then s at n f = go (leb (at + n) (length s))
  where
    go : (t : Bool) → ((if t then fine (number_at s at n) else refused 3) >>= f) ≡ (require t 3 >>= λ u. f (number_at s at n))
    go true = refl
    go false = refl

module _ (z : Sizes) (body : List ℕ) where
  -- the numbers that stand at an extent's place
  abbrev pub extent_here : ℕ → Extent
  extent_here at = record { offset = number_at body (at + z.index) z.offset; length = number_at body (at + z.index + z.offset) z.length }

  record Whole (at : ℕ) (x : Extent) : Type 0 where
    sizes : Judged z
    inside : at + extent_width z ≤ length body
    is : x ≡ extent_here at

  extent_whole : (at : ℕ) {x : Extent} → fine x ≡ extent_at z body at → Whole at x
  unfolding extent_at extent_width
  extent_whole at {x} e =
      let (i, p, e₁) = bind_fine (sized body at z.index 12) _ e in
      let (o, q, e₂) = bind_fine (sized body (at + z.index) z.offset 13) _ e₁ in
      let (l, r, e₃) = bind_fine (sized body (at + z.index + z.offset) z.length 14) _ e₂ in
      let (wi, si) = sized_stands body at z.index 12 p in
      let (wo, so) = sized_stands body (at + z.index) z.offset 13 q in
      let (wl, sl) = sized_stands body (at + z.index + z.offset) z.length 14 r in
      let same : x ≡ record { offset = o; length = l } = cc in
      record {
        sizes = record { index = wi; offset = wo; length = wl };
        inside = omega (arith, sl.inside);
        is = same ∙ ap₂ (λ o l. record { offset = o; length = l }) so.is sl.is;
      }

  -- with such sizes, an extent need only fit
  extent_fits : (at : ℕ) → Judged z → extent_at z body at ≡ (require (leb (at + extent_width z) (length body)) 3 >>= λ u. fine (extent_here at))
  unfolding extent_at extent_width
  extent_fits at h =
      let offsetAt = at + z.index in
      let length_at = offsetAt + z.offset in
      let end : at + (z.index + z.offset + z.length) ≡ length_at + z.length = omega arith in
      rw (sized_field body at 12 h.index, sized_field body offsetAt 13 h.offset, sized_field body length_at 14 h.length, end)
      (field_then body at z.index _
      ∙ bind_cong (require (leb offsetAt (length body)) 3)
      (λ u. field_then body offsetAt z.offset _
      ∙ bind_cong (require (leb length_at (length body)) 3) (λ v. field_then body length_at z.length _)
      ∙ require_far _ length_at (length_at + z.length) (length body) (omega arith))
      ∙ require_far _ offsetAt (length_at + z.length) (length body) (omega arith))

  -- ---- Extents one after another

  abbrev w : ℕ
  w = extent_width z

  abbrev from : ℕ → ℕ → Walk Extent
  from n at = run (λ at. extent_met (at + w) (extent_at z body at)) n at

  after_extent : (at : ℕ) (o : Outcome Extent) (go : ℕ → Walk Extent)
      → outcome (after at (extent_met (at + w) o) go).end ≡ (o >>= λ x. outcome (go (at + w)).end)
  unfolding after judged walked bare outcome extent_met
  after_extent at (fine x) go = refl
  after_extent at (refused n) go = refl

  next_at : (n at : ℕ) → at + suc n * w ≡ at + w + n * w
  next_at n at = rw suc-mul (omega arith)

  -- after one that is whole, the others need only be there
  fits : (n at : ℕ) → Judged z → at ≤ length body → outcome (from n at).end ≡ require (leb (at + n * w) (length body)) 3
  unfolding run bare outcome
  fits zero at h k = rw (zero-mul, add-zero, le-leb at (length body) k)
  fits (suc n) at h k =
      after_extent at (extent_at z body at) (from n)
      ∙ rw (extent_fits at h, next_at n at) (go (λ i. fits n (at + w) h i) (leb (at + w) (length body)) refl)
    where
      go : (at + w ≤ length body → outcome (from n (at + w)).end ≡ require (leb (at + w + n * w) (length body)) 3)
          → (t : Bool) → leb (at + w) (length body) ≡ t
          → ((require t 3 >>= λ u. fine (extent_here at)) >>= λ x. outcome (from n (at + w)).end) ≡ require (leb (at + w + n * w) (length body)) 3
      go more true e = more (leb-true (at + w) (length body) e)
      go more false e = rw (lt-leb (at + w + n * w) (length body) (omega (arith, leb-false (at + w) (length body) e)))

  -- the first extent decides for all of them
  pub first_decides : (n at : ℕ) → (n ≡ 0 → ⊥)
      → outcome (from n at).end ≡ (extent_at z body at >>= λ x. require (leb (at + n * w) (length body)) 3)
  unfolding run
  first_decides zero at k = absurd (k refl)
  first_decides (suc n) at k = after_extent at (extent_at z body at) (from n) ∙ go (extent_at z body at) refl
    where
      go : (o : Outcome Extent) → o ≡ extent_at z body at
          → (o >>= λ x. outcome (from n (at + w)).end) ≡ (o >>= λ x. require (leb (at + suc n * w) (length body)) 3)
      go (fine x) e = let i = extent_whole at e in rw (next_at n at) (fits n (at + w) i.sizes i.inside)
      go (refused m) e = refl

  -- ---- Extents read again

  -- a walk that was not refused: its first extent, and the others
  after_fine : (n at : ℕ) (o : Outcome Extent) → fine tt ≡ outcome (after at (extent_met (at + w) o) (from n)).end
      → (x : Extent) × (fine x ≡ o) × (fine tt ≡ outcome (from n (at + w)).end)
      × ((after at (extent_met (at + w) o) (from n)).list ≡ x ∷ (from n (at + w)).list)
  unfolding after judged walked bare outcome extent_met
  after_fine n at (fine x) e = (x, refl, e, refl)
  after_fine n at (refused m) e = absurd (apart e)

  list_length : (n at : ℕ) → fine tt ≡ outcome (from n at).end → length (from n at).list ≡ n
  unfolding run bare
  list_length zero at e = refl
  list_length (suc n) at e =
      let (x, p, q, r) = after_fine n at (extent_at z body at) e in
      rw r (ap suc (list_length n (at + w) q))

  -- extent k, of those from `at` on
  pub record Kth (at k : ℕ) (xs : List Extent) : Type 0 where
    pub sizes : Judged z
    pub inside : at + k * w + w ≤ length body
    pub here : drop k xs ≡ extent_here (at + k * w) ∷ drop (k + 1) xs

  list_kth : (n at k : ℕ) → fine tt ≡ outcome (from n at).end → k < n → Kth at k (from n at).list
  unfolding run
  list_kth zero at k e h = absurd (omega arith)
  list_kth (suc n) at zero e h =
      let (x, p, q, r) = after_fine n at (extent_at z body at) e in
      let i = extent_whole at p in
      let z : at + 0 * w ≡ at = rw zero-mul (omega arith) in
      record { sizes = i.sizes; inside = rw z i.inside; here = rw (z, r, i.is) }
  list_kth (suc n) at (suc k) e h =
      let (x, p, q, r) = after_fine n at (extent_at z body at) e in
      let i = list_kth n (at + w) k q (omega arith) in
      record { sizes = i.sizes; inside = rw (next_at k at) i.inside; here = rw (next_at k at, r, add-one) (rw add-one at i.here) }

-- the same of an entry's extents, where they are not refused
module _ (z : Sizes) (body : List ℕ) (e : Entry) (h : fine tt ≡ outcome (extents z body e).end) where
  pub extents_length : length (extents z body e).list ≡ e.count
  unfolding extents
  extents_length = list_length z body e.count e.from h

  pub extents_kth : (k : ℕ) → k < e.count → Kth z body e.from k (extents z body e).list
  unfolding extents
  extents_kth k l = list_kth z body e.count e.from k h l
