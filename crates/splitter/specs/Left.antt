-- What is left of the bytes after a call, where it succeeds and where it is refused: laws over `Front` and `Behind`.
use Rattle.std.specs.Prelude.{◌≡◌, refl, ℕ, ◌+◌, ◌-◌, ◌≤◌, ◌<◌, false, ◌||◌, List, ◌++◌, length, take, drop, leb, ltb, eqb}
use Rattle.std.proofs.Common.{sym, ap, zero-add, length-drop, take-append-drop, ltb-false, le-leb, ne_eqb}
use native.Mathlib.Omega.{arith}
use Rattle.std.proofs.Math.Option.{Option, none, some}
use Rattle.std.proofs.Math.Seq.{take-add}
use Rattle.rules.specs.Doc.Outcomes.{Outcome, fine, refused, ◌>>=◌}
use Rattle.rules.specs.Doc.Bytes.{number_at, size_of, bytes_in, field}
use Rattle.rules.specs.Doc.Headers.{Box, child_at}
use Rattle.rules.specs.Laws.Rows.{apart, by_test}
use Rattle.rules.specs.Laws.Numbers.{bytes_in_is, field_in}
use Rattle.rules.specs.Laws.Headers.{child_inside}
use Rattle.splitter.specs.Taken.{fits}
use Rattle.splitter.specs.Front.{as_sized, sized_front, full_box_at, array4_at, slice_front, child_box_at}
use Rattle.splitter.specs.Behind.{behind, behind_sized, read_of, header_read, end_of, past_box, behind_box}

-- where there are enough bytes, and where there are too few
enough : (s : List ℕ) (n : ℕ) → n ≤ length s → behind s n ≡ drop n s
unfolding behind
enough s n h = rw (le-leb n (length s) h)

too_few : (s : List ℕ) (n : ℕ) → leb n (length s) ≡ false → behind s n ≡ s
unfolding behind
too_few s n h = rw h

-- ---- A slice

-- What a slice hands out and what is left make the whole.
pub slice_and_left : (s : List ℕ) (n : ℕ) {p : List ℕ} → slice_front s n ≡ fine p → p ++ behind s n ≡ s
slice_and_left s n e =
    let f = fits s n (sym e) in
    rw (f.is, enough s n f.enough) (take-append-drop n s)

-- Where a slice is refused, nothing is gone.
pub slice_refused : (s : List ℕ) (n : ℕ) {k : ℕ} → slice_front s n ≡ refused k → behind s n ≡ s
unfolding slice_front
slice_refused s n {k} =
    by_test (λ (o : Outcome (List ℕ)). o ≡ refused k → behind s n ≡ s) (leb n (length s)) (λ h e. absurd (apart e)) (λ h e. too_few s n h)

-- ---- A number, four bytes, the header of a full box: where they are refused, nothing is gone

pub field_refused : (s : List ℕ) (n : ℕ) {k : ℕ} → field s 0 n ≡ refused k → behind s n ≡ s
unfolding field
field_refused s n {k} =
    by_test (λ (o : Outcome ℕ). o ≡ refused k → behind s n ≡ s) (leb (0 + n) (length s)) (λ h e. absurd (apart e))
    (λ h e. too_few s n (rw zero-add at h))

pub array4_refused : (s : List ℕ) {k : ℕ} → array4_at s 0 ≡ refused k → behind s 4 ≡ s
unfolding array4_at
array4_refused s {k} =
    by_test (λ (o : Outcome (List ℕ)). o ≡ refused k → behind s 4 ≡ s) (leb 4 (length s)) (λ h e. absurd (apart e)) (λ h e. too_few s 4 h)

-- what is made of a number is refused only where the number is
refused_before : {A B : Type 0} (o : Outcome A) (f : A → B) {k : ℕ} → (o >>= λ v. fine (f v)) ≡ refused k → o ≡ refused k
refused_before (fine a) f e = absurd (apart e)
refused_before (refused n) f {k} e =
    let z : n ≡ k = cc in
    ap refused z

pub fullbox_refused : (s : List ℕ) {k : ℕ} → full_box_at s 0 ≡ refused k → behind s 4 ≡ s
unfolding full_box_at
fullbox_refused s e = field_refused s 4 (refused_before (field s 0 4) _ e)

-- ---- A number of 0, 4 or 8 bytes

-- No bytes make 0, and nothing is gone.
pub size_0 : (s : List ℕ) → (sized_front s 0 ≡ fine (some 0)) × (behind_sized s 0 ≡ s)
unfolding sized_front as_sized behind_sized number_at
size_0 s = (rw (← field_in s 0 0 (omega arith) refl), refl)

-- Another size is not read, and nothing is gone.
pub size_other : (s : List ℕ) (w : ℕ) → (w ≡ 0 → ⊥) → (w ≡ 4 → ⊥) → (w ≡ 8 → ⊥) → (sized_front s w ≡ fine none) × (behind_sized s w ≡ s)
unfolding sized_front behind_sized
size_other s w a b c = (rw (ne_eqb w 0 a, ne_eqb w 4 b, ne_eqb w 8 c), rw (ne_eqb w 4 b, ne_eqb w 8 c))

-- Too few bytes for the size: nothing is gone.
pub size_refused : (s : List ℕ) (w : ℕ) {k : ℕ} → sized_front s w ≡ refused k → behind_sized s w ≡ s
unfolding sized_front as_sized behind_sized
size_refused s w {k} e = by_test (λ (l : List ℕ). l ≡ s) (eqb w 4 || eqb w 8) (λ h. unread e) (λ h. refl)
  where
    unread : sized_front s w ≡ refused k → behind s w ≡ s
    unread =
        by_test (λ (o : Outcome (Option ℕ)). o ≡ refused k → behind s w ≡ s) (eqb w 0 || eqb w 4 || eqb w 8)
        (λ h e. field_refused s w (refused_before (field s 0 w) some e)) (λ h e. absurd (apart e))

-- ---- A child box

-- two answers of a box that are the same have the same type and the same body
pub same_box : {k j : ℕ} {a b : List ℕ} → ◌≡◌ {A = Outcome (ℕ × List ℕ)} (fine (k, a)) (fine (j, b)) → (k ≡ j) × (a ≡ b)
same_box {k} {j} {a} {b} e =
    let x : ℕ × List ℕ = (k, a) in
    let y : ℕ × List ℕ = (j, b) in
    let z : x ≡ y = cc in
    (ap (λ (p : ℕ × List ℕ). p.0) z, ap (λ (p : ℕ × List ℕ). p.1) z)

module _ (s : List ℕ) {b : Box} (e : child_at s 0 ≡ fine b) where
  -- Of a box that is whole, what follows its body is left.
  pub box_whole : behind_box s 0 ≡ drop b.body.to s
  unfolding behind_box past_box end_of
  box_whole = rw e (enough s b.body.to (child_inside s 0 (sym e)).inner)

  -- That is less than there was, so a loop over boxes ends.
  pub box_shorter : length (behind_box s 0) < length s
  box_shorter =
      let i = child_inside s 0 (sym e) in
      rw (box_whole, length-drop b.body.to s) (omega arith)

  -- Header, body and what is left make the whole.
  pub header_body_and_left : {kind : ℕ} {body : List ℕ} → child_box_at s 0 ≡ fine (kind, body) → take b.body.from s ++ body ++ behind_box s 0 ≡ s
  unfolding child_box_at
  header_body_and_left {kind} {body} told =
      let i = child_inside s 0 (sym e) in
      let end : b.body.from + size_of b.body ≡ b.body.to = omega arith in
      let same : body ≡ bytes_in s b.body = sym (same_box (rw e at told)).1 in
      rw (box_whole, same, bytes_in_is s b.body i.inner, ← take-add b.body.from (size_of b.body) s, end) (take-append-drop b.body.to s)

-- no more of a header is read than there is
read_inside : (left size : ℕ) → read_of left size ≤ left
unfolding read_of
read_inside left size =
    by_test (λ n. n ≤ left) (ltb left 4) (λ h. omega arith)
    (λ h. by_test (λ n. n ≤ left) (ltb left 8) (λ i. omega (arith, ltb-false left 4 h))
    (λ i. by_test (λ n. n ≤ left) (eqb size 1)
    (λ j. by_test (λ n. n ≤ left) (ltb left 16) (λ k. omega (arith, ltb-false left 8 i)) (λ k. omega (arith, ltb-false left 16 k)))
    (λ j. omega (arith, ltb-false left 8 i))))

-- Of a box that is refused, what follows the bytes of its header that could be read is left.
pub box_refused : (s : List ℕ) {k : ℕ} → child_at s 0 ≡ refused k → behind_box s 0 ≡ drop (header_read s 0) s
unfolding behind_box past_box end_of header_read
box_refused s e = rw (e, zero-add) (enough s (header_read s 0) (omega (arith, read_inside (length s - 0) (number_at s 0 4))))
