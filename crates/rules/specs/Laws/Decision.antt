-- The decision over a header's size and the test of each level, case by case, by the tests that a reader makes.
use Rattle.std.specs.Prelude.{◌≡◌, refl, ℕ, ◌+◌, ◌-◌, ◌^◌, ◌≤◌, ◌<◌, ◌⊎◌, false, List, ltb}
use Rattle.std.proofs.Math.Path.{sym}
use Rattle.std.proofs.Common.{◌∙◌, inl, inr}
use native.Mathlib.Omega.{arith}
use Rattle.std.proofs.Math.Decide.{dec_le}
use Rattle.std.proofs.Math.ListN.{length}
use borrow.Author.Tests.{lt-ltb, le-ltb, le-leb, lt-leb, ne_eqb}
use Rattle.rules.specs.Doc.Outcomes.{fine, refused, require}
use Rattle.rules.specs.Doc.Bytes.{number_at, size_of}
use Rattle.rules.specs.Doc.Headers.{ftyp, meta, header_of, header_at, body_size, Box, box_of, box_with}
use Rattle.rules.specs.Doc.Headers.{whole, skips, announced, standing, box_at, file_box_at}
use Rattle.rules.specs.Laws.Rows.{apart}

-- ---- The decision over the size, case by case. `left` bytes are left at the position.

module _ (s : List ℕ) (at : ℕ) {left : ℕ} (l : left ≡ length s - at) where
  -- the first n bytes there are not cut
  there : (n : ℕ) → n ≤ left → 1 ≤ n → ltb (length s) (at + n) ≡ false
  there n h k = le-ltb (length s) (at + n) (omega arith)

  pub cut_short : left < 8 → (cut : ℕ) → refused cut ≡ announced cut s at
  unfolding announced header_at header_of
  cut_short h cut = rw (lt-ltb (length s) (at + 8) (omega arith))

  module _ {size : ℕ} (e : size ≡ number_at s at 4) (h : 8 ≤ left) where
    -- size 0
    pub to_end : {kind : ℕ} → kind ≡ number_at s (at + 4) 4 → size ≡ 0 → (cut : ℕ) → fine (box_of at kind (at + 8) (at + 8 + (left - 8))) ≡ announced cut s at
    unfolding announced header_at header_of body_size box_with
    to_end k z cut =
        let r : length s - (at + 8) ≡ left - 8 = omega arith in
        rw (there 8 h (omega arith), ← e, ← k, z, r)

    -- size 1
    pub cut_long : size ≡ 1 → left < 16 → (cut : ℕ) → refused cut ≡ announced cut s at
    unfolding announced header_at header_of
    cut_long o m cut = rw (there 8 h (omega arith), ← e, o, lt-ltb (length s) (at + 16) (omega arith))

    module _ {large : ℕ} (g : large ≡ number_at s (at + 8) 8) (o : size ≡ 1) (m : 16 ≤ left) where
      pub large_small : large < 16 → (cut : ℕ) → refused 4 ≡ announced cut s at
      unfolding announced header_at header_of body_size
      large_small q cut = rw (there 8 h (omega arith), ← e, o, there 16 m (omega arith), ← g, lt-ltb large 16 q)

      pub large_exact : {kind : ℕ} → kind ≡ number_at s (at + 4) 4 → 16 ≤ large → (cut : ℕ) → fine (box_of at kind (at + 16) (at + 16 + (large - 16))) ≡ announced cut s at
      unfolding announced header_at header_of body_size box_with
      large_exact k q cut = rw (there 8 h (omega arith), ← e, ← k, o, there 16 m (omega arith), ← g, le-ltb large 16 q)

    -- sizes 2 to 7, and the rest
    module _ (z : size ≡ 0 → ⊥) (o : size ≡ 1 → ⊥) where
      pub small : size < 8 → (cut : ℕ) → refused 4 ≡ announced cut s at
      unfolding announced header_at header_of body_size
      small m cut = simp (there 8 h (omega arith), sym e, ne_eqb size 0 z, ne_eqb size 1 o, lt-ltb size 8 m)

      pub exact : {kind : ℕ} → kind ≡ number_at s (at + 4) 4 → 8 ≤ size → (cut : ℕ) → fine (box_of at kind (at + 8) (at + 8 + (size - 8))) ≡ announced cut s at
      unfolding announced header_at header_of body_size box_with
      exact k m cut = simp (there 8 h (omega arith), sym e, sym k, ne_eqb size 0 z, ne_eqb size 1 o, le-ltb size 8 m)

-- the box of a size of 8 or more ends so many bytes behind its start
pub sized_end_is : (cut : ℕ) (s : List ℕ) (at : ℕ) {b : Box} → fine b ≡ announced cut s at → 8 ≤ number_at s at 4 → b.body.to ≡ at + number_at s at 4
sized_end_is cut s at {b} e h =
    elim (dec_le 8 (length s - at)) [
      | yes k ↦
          let p = exact s at refl refl k (λ z. omega arith) (λ z. omega arith) refl h cut in
          let z : b ≡ box_of at (number_at s (at + 4) 4) (at + 8) (at + 8 + (number_at s at 4 - 8)) = cc in
          rw z (omega arith)
      | no k ↦ absurd (apart (e ∙ sym (cut_short s at refl (omega arith) cut)))
    ]

-- ---- The test of each level, of a box that was announced

-- inside a box of n bytes
module _ (n at kind from size : ℕ) where
  abbrev box : Box
  box = box_of at kind from (from + size)

  pub child_cut : n < from + size → refused 3 ≡ standing (whole 3 n) (fine box)
  unfolding whole
  child_cut m = rw (whole, lt-leb (from + size) n m)

  pub child_whole : from + size ≤ n → fine box ≡ standing (whole 3 n) (fine box)
  unfolding whole
  child_whole m = rw (whole, le-leb (from + size) n m)

-- at the top level
pub file_opened : (s : List ℕ) (at : ℕ) {b : Box} → fine b ≡ announced 2 s at → (b.kind ≡ ftyp) ⊎ (b.kind ≡ meta) → fine b ≡ file_box_at s at
unfolding file_box_at box_at skips
file_opened s at e (inl k) = rw (← e, skips, k)
file_opened s at e (inr k) = rw (← e, skips, k)

skipped : (b : Box) → ((b.kind ≡ ftyp) ⊎ (b.kind ≡ meta) → ⊥) → skips b ≡ require (ltb (size_of b.body) (2 ^ 63)) 5
unfolding skips
skipped b o = rw (ne_eqb b.kind ftyp (λ k. o (inl k)), ne_eqb b.kind meta (λ k. o (inr k)))

module _ (s : List ℕ) (at : ℕ) {kind from size : ℕ} (e : fine (box_of at kind from (from + size)) ≡ announced 2 s at) (o : (kind ≡ ftyp) ⊎ (kind ≡ meta) → ⊥) where
  pub file_skipped : size < 2 ^ 63 → fine (box_of at kind from (from + size)) ≡ file_box_at s at
  unfolding file_box_at box_at
  file_skipped h = rw (← e, skipped (box_of at kind from (from + size)) o, lt-ltb (from + size - from) (2 ^ 63) (omega arith))

  pub file_large : 2 ^ 63 ≤ size → refused 5 ≡ file_box_at s at
  unfolding file_box_at box_at
  file_large h = rw (← e, skipped (box_of at kind from (from + size)) o, le-ltb (from + size - from) (2 ^ 63) (omega arith))
