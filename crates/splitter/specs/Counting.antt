-- The whole boxes from a position are one more than those behind the box there, and none where that box is refused. Those of what follows k bytes are
-- those of the whole, from k on.
use Rattle.std.specs.Prelude.{◌≡◌, List, drop, leb}
use Rattle.std.proofs.Math.Path.{refl, ap}
use Rattle.std.proofs.Common.{sym, ◌∙◌, length-drop}
use Prim.Native.Nat.{ℕ, zero, suc, ◌+◌, ◌-◌, ◌≤◌, ◌<◌}
use native.Mathlib.Omega.{arith}
use Rattle.std.proofs.Math.Option.{Option, none, some}
use Rattle.std.proofs.Math.ListN.{length}
use borrow.Author.Tests.{leb-true, lt-ltb}
use Rattle.rules.specs.Doc.Outcomes.{Outcome, fine, refused, ◌>>=◌, given}
use Rattle.rules.specs.Doc.Bytes.{number_at}
use Rattle.rules.specs.Doc.Walks.{onward, Step, over, cut, met, End, ended, cut_at, refused_at, stopped_at, Walk, bare, walked, judged, after}
use Rattle.rules.specs.Doc.Headers.{Header, header_at, body_size, Box, box_with, whole, announced, standing, box_at, child_at}
use Rattle.rules.specs.Doc.Levels.{inside, tested, said, decided, box_step, level_step, boxes}
use Rattle.rules.specs.Doc.Join.{moved as placed}
use Rattle.rules.specs.Laws.Rows.{by_test}
use Rattle.rules.specs.Laws.Headers.{none_short, child_inside}
use Rattle.rules.specs.Laws.Unroll.{boxes_unroll}
use Rattle.rules.specs.Laws.Moved.{moved_box, child_moved}
use Rattle.splitter.specs.Children.{unopened, refused_in, whole_in, whole_from, whole_children}

-- ---- One box

-- at most one box of a walk is refused, and it was walked too
few : (e : End Box) → refused_in e ≤ 1
unfolding refused_in
few ended = omega arith
few (cut_at n at) = omega arith
few (refused_at n b) = omega arith
few (stopped_at b) = omega arith

walked_too : (at : ℕ) (st : Step Box) (go : ℕ → Walk Box) → refused_in (after at st go).end ≤ length (after at st go).list
unfolding after bare walked refused_in
walked_too at over go = omega arith
walked_too at (cut n) go = omega arith
walked_too at (met b v) go = omega (arith, few (judged b v go).end)

module _ (s : List ℕ) where
  -- what a box at a position makes of the count
  unfoldable pub counted : Outcome Box → ℕ
  counted (fine b) = suc (whole_from s b.body.to)
  counted (refused n) = 0

  one_more : (b : Box) → whole_in (walked b (boxes unopened s b.body.to)) ≡ suc (whole_from s b.body.to)
  unfolding whole_in whole_from walked
  one_more b =
      let to : ℕ = b.body.to in
      let w : Walk Box = boxes unopened s to in
      let k : refused_in w.end ≤ length w.list = rw (boxes_unroll unopened s to) (walked_too to (level_step unopened s to) (boxes unopened s)) in
      omega arith

  said_counts : (b : Box) (fit : Outcome (Unit {0}))
      → whole_in (walked b (judged b (fit >>= λ u. fine (onward b.body.to)) (boxes unopened s))) ≡ counted (fit >>= λ u. fine b)
  unfolding counted whole_in walked judged bare refused_in
  said_counts b (fine u) = one_more b
  said_counts b (refused n) = refl

  size_counts : (h : Header) (o : Outcome ℕ)
      → whole_in (walked (box_with h (decided o)) (judged (box_with h (decided o)) (o >>= λ size. said unopened s (box_with h size)) (boxes unopened s)))
      ≡ counted (standing (whole 3 (length s)) (o >>= λ size. fine (box_with h size)))
  unfolding counted decided said tested unopened inside whole_in walked judged bare refused_in
  size_counts h (refused n) = refl
  size_counts h (fine size) = said_counts (box_with h size) (whole 3 (length s) (box_with h size))

  header_counts : (at : ℕ) (o : Option Header)
      → whole_in (after at (box_step unopened s o) (boxes unopened s))
      ≡ counted (standing (whole 3 (length s)) (given o 3 >>= λ h. body_size (length s) h >>= λ size. fine (box_with h size)))
  unfolding counted after box_step bare whole_in refused_in
  header_counts at none = refl
  header_counts at (some h) = size_counts h (body_size (length s) h)

  -- no header is whole at the end
  end_counts : (at : ℕ) → length s ≤ at → 0 ≡ counted (child_at s at)
  unfolding counted child_at box_at announced header_at
  end_counts at h =
      let short = lt-ltb (length s) (at + 8) (omega arith) in
      rw (none_short (length s) at (number_at s at 4) (number_at s (at + 4) 4) (number_at s (at + 8) 8) short)

  pub whole_unroll : (at : ℕ) → whole_from s at ≡ counted (child_at s at)
  unfolding whole_from level_step whole_in after bare refused_in child_at box_at announced
  whole_unroll at =
      ap whole_in (boxes_unroll unopened s at)
      ∙ by_test (λ (st : Step Box). whole_in (after at st (boxes unopened s)) ≡ counted (child_at s at)) (leb (length s) at)
      (λ e. end_counts at (leb-true (length s) at e)) (λ e. header_counts at (header_at s at))

  -- One more than from behind a whole box; none where the box is refused, and none at the end.
  pub whole_next : (at : ℕ) {b : Box} → fine b ≡ child_at s at → whole_from s at ≡ suc (whole_from s b.body.to)
  unfolding counted
  whole_next at e = rw (whole_unroll at, ← e)

  pub whole_refused : (at : ℕ) {n : ℕ} → refused n ≡ child_at s at → whole_from s at ≡ 0
  unfolding counted
  whole_refused at e = rw (whole_unroll at, ← e)

  pub whole_end : (at : ℕ) → length s ≤ at → whole_from s at ≡ 0
  whole_end at h = whole_unroll at ∙ sym (end_counts at h)

  -- there are no more of them than bytes
  few_next : (at : ℕ) (o : Outcome Box) → o ≡ child_at s at → ((q : ℕ) → at < q → whole_from s q ≤ length s - q) → whole_from s at ≤ length s - at
  few_next at (refused n) e later = rw (whole_refused at e) (omega arith)
  few_next at (fine b) e later =
      let i = child_inside s at e in
      rw (whole_next at e) (omega (arith, later b.body.to (omega arith)))

  few_from : (n at : ℕ) → length s ≤ at + n → whole_from s at ≤ length s - at
  few_from zero at h = rw (whole_end at (omega arith)) (omega arith)
  few_from (suc n) at h = few_next at (child_at s at) refl (λ q j. few_from n q (omega arith))

  pub whole_few : {n : ℕ} → n ≡ whole_children s → n ≤ length s
  unfolding whole_children
  whole_few e = omega (arith, few_from (length s) 0 (omega arith))

-- ---- What follows k bytes

module _ (k : ℕ) (s : List ℕ) (fits : k ≤ length s) where
  counted_moved : (at : ℕ) (o : Outcome Box) → o ≡ child_at (drop k s) at → ((q : ℕ) → at < q → whole_from s (k + q) ≡ whole_from (drop k s) q)
      → counted s (o >>= λ b. fine (moved_box k b)) ≡ counted (drop k s) o
  unfolding counted moved_box placed
  counted_moved at (refused n) e later = refl
  counted_moved at (fine b) e later =
      let i = child_inside (drop k s) at e in
      ap suc (later b.body.to (omega arith))

  -- by how many bytes are left at most
  from_moved : (n at : ℕ) → length (drop k s) ≤ at + n → whole_from s (k + at) ≡ whole_from (drop k s) at
  from_moved zero at h = whole_end s (k + at) (omega (arith, length-drop k s)) ∙ sym (whole_end (drop k s) at (omega arith))
  from_moved (suc n) at h =
      whole_unroll s (k + at) ∙ ap (counted s) (child_moved k s fits at)
      ∙ counted_moved at (child_at (drop k s) at) refl (λ q j. from_moved n q (omega arith)) ∙ sym (whole_unroll (drop k s) at)

  pub whole_moved : whole_from s k ≡ whole_from (drop k s) 0
  whole_moved =
      let z : k + 0 ≡ k = omega arith in
      rw z at (from_moved (length (drop k s)) 0 (omega arith))
