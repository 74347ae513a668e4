-- Which markers end the search or lack a length, and the FF bytes before a marker.
use Rattle.std.specs.Prelude.{◌≡◌, Bool, ◌||◌, List, ℕ, suc, ◌+◌, ◌-◌, ◌≤◌, ◌<◌}
use Rattle.std.proofs.Math.Path.{refl, sym}
use Rattle.std.proofs.Math.Bool.{true, false}
use native.Mathlib.Omega.{arith}
use Rattle.std.proofs.Math.Numerals.{add-one}
use Rattle.std.proofs.Math.ListN.{length}
use Rattle.std.proofs.Math.Dec.{eqb}
use borrow.Author.Tests.{le-leb, lt-leb, eq-eqb, ne_eqb, eqb-false}
use Rattle.rules.specs.Doc.Bytes.{byte_at}
use Rattle.jpeg_rules.specs.Doc.Segments.{prefix, ends_search, lacks_length, past_fill, marker_at}

-- ---- Kinds of markers

module _ (marker : ℕ) where
  pub ends_other : (marker ≡ 0xda → ⊥) → (marker ≡ 0xd9 → ⊥) → false ≡ ends_search marker
  unfolding ends_search
  ends_other a b = rw (ne_eqb marker 0xda a, ne_eqb marker 0xd9 b)

  -- D9 and DA are neighbours, and the kit makes one range of the arm for both
  pub ends_between : 0xd9 ≤ marker → marker < 0xdb → true ≡ ends_search marker
  unfolding ends_search
  ends_between h k = go (eqb marker 0xda) refl
    where
      go : (t : Bool) → eqb marker 0xda ≡ t → true ≡ (t || eqb marker 0xd9)
      go true e = refl
      go false e = sym (eq-eqb marker 0xd9 (omega (arith, eqb-false marker 0xda e)))

  pub lacks_tem : marker ≡ 0x01 → true ≡ lacks_length marker
  unfolding lacks_length
  lacks_tem e = rw e

  module _ (ne : marker ≡ 0x01 → ⊥) where
    pub lacks_below : marker < 0xd0 → false ≡ lacks_length marker
    unfolding lacks_length
    lacks_below h = rw (ne_eqb marker 0x01 ne, lt-leb 0xd0 marker h)

    pub lacks_above : 0xd8 ≤ marker → false ≡ lacks_length marker
    unfolding lacks_length
    lacks_above h = rw (ne_eqb marker 0x01 ne, le-leb 0xd0 marker (omega arith), lt-leb marker 0xd7 (omega arith))

    pub lacks_between : 0xd0 ≤ marker → marker < 0xd8 → true ≡ lacks_length marker
    unfolding lacks_length
    lacks_between h k = rw (ne_eqb marker 0x01 ne, le-leb 0xd0 marker h, le-leb marker 0xd7 (omega arith))

-- ---- FF bytes one after another, up to the marker

-- in the loop: the bytes from `at` on decide where the marker stands
module _ (s : List ℕ) (at : ℕ) {marker : ℕ} (inv : marker_at s at ≡ marker) where
  pub marker_none : length s ≤ at → at ≡ marker
  unfolding marker_at past_fill
  marker_none h =
      let left : length s - at ≡ 0 = omega arith in
      rw left at inv

  module _ (h : at < length s) where
    left_more : length s - at ≡ suc (length s - (at + 1))
    left_more = omega arith

    pub marker_here : (byte_at s at ≡ prefix → ⊥) → at ≡ marker
    unfolding marker_at past_fill
    marker_here ne = rw (left_more, ne_eqb (byte_at s at) prefix ne) at inv

    pub marker_later : byte_at s at ≡ prefix → marker_at s (at + 1) ≡ marker
    unfolding marker_at past_fill
    marker_later e = rw (left_more, eq-eqb (byte_at s at) prefix e, ← add-one at) at inv
