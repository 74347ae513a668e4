-- A box in what follows k bytes is the box in the whole, moved by k.
use Rattle.std.specs.Prelude.{◌≡◌, Bool, true, false, List, [], ◌∷◌, map, take, drop, leb, eqb}
use Rattle.std.proofs.Math.Path.{refl}
use Rattle.std.proofs.Common.{sym, ◌∙◌, arith, length-drop, get_or-drop, leb-true, leb-false, le-leb}
use Prim.Native.Nat.{ℕ, zero, suc, ◌+◌, ◌-◌, ◌≤◌, ◌<◌}
use Rattle.std.proofs.Math.Nat.{add_assoc, zero-sub, sub-zero}
use Rattle.std.proofs.Math.Option
use Rattle.std.proofs.Math.Option.{Option, none, some}
use Rattle.std.proofs.Math.ListN.{length}
use Rattle.std.proofs.Math.Seq.{take-nil}
use Rattle.std.proofs.Math.Dec.{ltb}
use Rattle.std.proofs.lemmas.Bool.{lt-leb}
use Rattle.rules.specs.Doc.Outcomes.{Outcome, fine, refused, ◌>>=◌, given}
use Rattle.rules.specs.Doc.Bytes.{number_at}
use Rattle.rules.specs.Doc.Headers.{Header, header_of, header_at, body_size, Box, box_with, whole, announced, standing, box_at, child_at}
use Rattle.rules.specs.Doc.Join.{moved}
use Rattle.rules.specs.Laws.Rows.{bind_assoc}
use Rattle.rules.specs.Laws.Headers.{none_short, none_long, some_long, some_short}
use Rattle.rules.specs.Laws.BoxRow.{Row}

unfoldable moved_header : ℕ → Header → Header
moved_header k h = record { start = k + h.start; size = h.size; kind = h.kind; large = h.large; width = h.width }

-- a box of what follows k bytes, as one of the whole
unfoldable pub moved_box : ℕ → Box → Box
moved_box k b = record { start = k + b.start; kind = b.kind; body = moved k b.body }

-- tests that say the same
same_test : (a b c d : ℕ) → (c ≤ d → a ≤ b) → (d < c → b < a) → leb a b ≡ leb c d
same_test a b c d f g = go (leb c d) refl
  where
    go : (t : Bool) → leb c d ≡ t → leb a b ≡ t
    go true e = le-leb a b (f (leb-true c d e))
    go false e = lt-leb a b (g (leb-false c d e))

-- a number stands in what follows k bytes, that much further in front
pub number_moved : (k : ℕ) (s : List ℕ) (at n : ℕ) → number_at s (k + at) n ≡ number_at (drop k s) at n
unfolding number_at
number_moved k s at zero = refl
number_moved k s at (suc n) = rw (number_moved k s at n, get_or-drop k s (at + n) 0, add_assoc)

box_moved : (k : ℕ) (h : Header) (size : ℕ) → box_with (moved_header k h) size ≡ moved_box k (box_with h size)
unfolding box_with moved_header moved_box moved
box_moved k h size = rw (add_assoc k h.start h.width, add_assoc k (h.start + h.width) size)

module _ (k : ℕ) (s : List ℕ) (fits : k ≤ length s) where
  -- how many bytes follow
  abbrev left : ℕ
  left = length (drop k s)

  follows : length s ≡ k + left
  follows = rw (length-drop k s) (omega arith)

  header_moved : (at x y z : ℕ) → header_of (length s) (k + at) x y z ≡ Option.map (moved_header k) (header_of left at x y z)
  unfolding moved_header
  header_moved at x y z = go (ltb left (at + 8)) (eqb x 1) (ltb left (at + 16)) refl refl refl
    where
      moves : (w : ℕ) {t : Bool} → ltb left (at + w) ≡ t → ltb (length s) (k + at + w) ≡ t
      moves w f =
          let e = follows in
          same_test (suc (length s)) (k + at + w) (suc left) (at + w) (λ h. omega arith) (λ h. omega arith) ∙ f

      go : (a b c : Bool) → ltb left (at + 8) ≡ a → eqb x 1 ≡ b → ltb left (at + 16) ≡ c
          → header_of (length s) (k + at) x y z ≡ Option.map (moved_header k) (header_of left at x y z)
      go true b c f g h = rw (none_short left at x y z f, none_short (length s) (k + at) x y z (moves 8 f))
      go false true true f g h = rw (none_long left at x y z f g h, none_long (length s) (k + at) x y z (moves 8 f) g (moves 16 h))
      go false true false f g h = rw (some_long left at x y z f g h, some_long (length s) (k + at) x y z (moves 8 f) g (moves 16 h))
      go false false c f g h = rw (some_short left at x y z f g, some_short (length s) (k + at) x y z (moves 8 f) g)

  size_moved : (h : Header) → body_size (length s) (moved_header k h) ≡ body_size left h
  unfolding body_size moved_header
  size_moved h =
      let f : length s - (k + h.start + h.width) ≡ left - (h.start + h.width) = omega (arith, follows) in
      rw f

  whole_moved : (b : Box) → whole 3 (length s) (moved_box k b) ≡ whole 3 left b
  unfolding whole moved_box moved
  whole_moved b =
      let e = follows in
      rw (same_test (k + b.body.to) (length s) b.body.to left (λ h. omega arith) (λ h. omega arith))

  size_then : (h : Header) (o : Outcome ℕ)
      → standing (whole 3 (length s)) (o >>= λ size. fine (box_with (moved_header k h) size))
      ≡ (standing (whole 3 left) (o >>= λ size. fine (box_with h size)) >>= λ b. fine (moved_box k b))
  size_then h (refused m) = refl
  size_then h (fine size) =
      let b : Box = box_with h size in
      rw (box_moved k h size, whole_moved b) (sym (bind_assoc (whole 3 left b) (λ u. fine b) (λ b. fine (moved_box k b))))

  header_then : (o : Option Header)
      → standing (whole 3 (length s)) (given (Option.map (moved_header k) o) 3 >>= λ h. body_size (length s) h >>= λ size. fine (box_with h size))
      ≡ (standing (whole 3 left) (given o 3 >>= λ h. body_size left h >>= λ size. fine (box_with h size)) >>= λ b. fine (moved_box k b))
  header_then none = refl
  header_then (some h) = rw (size_moved h) (size_then h (body_size left h))

  pub child_moved : (at : ℕ) → child_at s (k + at) ≡ (child_at (drop k s) at >>= λ b. fine (moved_box k b))
  unfolding child_at box_at announced header_at
  child_moved at =
      let x : ℕ = number_at (drop k s) at 4 in
      let y : ℕ = number_at (drop k s) (at + 4) 4 in
      let z : ℕ = number_at (drop k s) (at + 8) 8 in
      rw (add_assoc k at 4, add_assoc k at 8, number_moved k s at 4, number_moved k s (at + 4) 4, number_moved k s (at + 8) 8, header_moved at x y z)
      (header_then (header_of left at x y z))

-- what follows the first f of t bytes
pub drop_take : (f t : ℕ) (s : List ℕ) → take (t - f) (drop f s) ≡ drop f (take t s)
drop_take zero t s = rw (sub-zero t)
drop_take (suc f) zero s = rw (zero-sub (suc f))
drop_take (suc f) (suc t) [] = take-nil (suc t - suc f)
drop_take (suc f) (suc t) (x ∷ s) =
    let e : suc t - suc f ≡ t - f = omega arith in
    rw e (drop_take f t s)

-- whole boxes of what follows k bytes are whole boxes of all, moved
pub row_moved : (k : ℕ) (s : List ℕ) → k ≤ length s → (at : ℕ) (bs : List Box) (to : ℕ) → Row (child_at (drop k s)) at bs to
    → Row (child_at s) (k + at) (map (moved_box k) bs) (k + to)
unfolding moved_box moved
row_moved k s h at [] to r = rw r
row_moved k s h at (b ∷ bs) to r = (rw (child_moved k s h at, ← r.0), row_moved k s h b.body.to bs to r.1)
