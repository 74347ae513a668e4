-- What is read from a slice or a box that was handed out is what stands at the front of the whole.
use Rattle.std.specs.Prelude.{◌≡◌, refl, ℕ, ◌-◌, ◌≤◌, ◌<◌, Bool, true, false, List, [], ◌∷◌, length, take, drop, get_or, leb, if◌then◌else◌}
use Rattle.std.proofs.Common.{sym, ◌∙◌, zero-add, length-drop, length-take, get_or-take, arith}
use borrow.Author.Tests.{le-leb, lt-leb, leb-true, leb-false}
use Rattle.std.proofs.Math.Seq.{take_all}
use Rattle.rules.specs.Doc.Outcomes.{fine, refused}
use Rattle.rules.specs.Doc.Bytes.{number_at, part, field}
use Rattle.rules.specs.Doc.Headers.{child_at}
use Rattle.rules.specs.Laws.Rows.{apart}
use Rattle.rules.specs.Laws.Numbers.{number_part, field_in, field_out}
use Rattle.boxes.specs.Loops.{WholeBox}
use Rattle.splitter.specs.Front.{array4_at, slice_front, child_box_at}
use Rattle.splitter.specs.Behind.{behind, header_read, end_of, past_box, behind_box}

-- ---- A slice of n bytes

module _ (s : List ℕ) (n : ℕ) where
  -- one that is handed out fits, and is the front
  pub record Fits (p : List ℕ) : Type 0 where
    pub enough : n ≤ length s
    pub is : p ≡ take n s

  pub fits : {p : List ℕ} → fine p ≡ slice_front s n → Fits p
  unfolding slice_front
  fits {p} e = go (leb n (length s)) refl e
    where
      go : (t : Bool) → leb n (length s) ≡ t → fine p ≡ (if t then fine (take n s) else refused 3) → Fits p
      go true h e = record { enough = leb-true n (length s) h; is = cc }
      go false h e = absurd (apart e)

  -- one that is refused doesn't fit, which is 3
  pub misfits : {k : ℕ} → refused k ≡ slice_front s n → (length s < n) × (k ≡ 3)
  unfolding slice_front
  misfits {k} e = go (leb n (length s)) refl e
    where
      go : (t : Bool) → leb n (length s) ≡ t → refused k ≡ (if t then fine (take n s) else refused 3) → (length s < n) × (k ≡ 3)
      go true h e = absurd (apart (sym e))
      go false h e = (leb-false n (length s) h, cc)

  pub taken_length : {p : List ℕ} → fine p ≡ slice_front s n → length p ≡ n
  taken_length e =
      let f = fits e in
      rw (f.is, length-take n s) (omega arith)

  pub taken_number : {p : List ℕ} {v : ℕ} → fine p ≡ slice_front s n → v ≡ number_at p 0 n → fine v ≡ field s 0 n
  taken_number {p} {v} e g =
      let f = fits e in
      let i : v ≡ number_at s 0 n = rw f.is at g ∙ number_part s 0 n n (omega arith) in
      field_in s 0 n (omega arith) i

  pub taken_refused : {k : ℕ} → refused k ≡ slice_front s n → refused k ≡ field s 0 n
  taken_refused e =
      let f = misfits e in
      rw f.1 (field_out s 0 n (omega arith))

-- four of them, one by one
pub taken_four : (s : List ℕ) {p : List ℕ} → fine p ≡ slice_front s 4
    → fine (get_or p 0 0 ∷ get_or p 1 0 ∷ get_or p 2 0 ∷ get_or p 3 0 ∷ []) ≡ array4_at s 0
unfolding array4_at
taken_four s e =
    let f = fits s 4 e in
    let at : (i : ℕ) → i < 4 → get_or (take 4 s) i 0 ≡ get_or s i 0 = λ i h. get_or-take 4 s i 0 h in
    rw (f.is, le-leb 4 (length s) f.enough, at 0 (omega arith), at 1 (omega arith), at 2 (omega arith), at 3 (omega arith))

pub taken_not_four : (s : List ℕ) {k : ℕ} → refused k ≡ slice_front s 4 → refused k ≡ array4_at s 0
unfolding array4_at
taken_not_four s e =
    let f = misfits s 4 e in
    rw (f.1, lt-leb 4 (length s) f.0)

-- what a function over a slice that it has taken may use: for a number, and for four bytes
pub ruleset numbers = (taken_length, taken_number, taken_refused)

pub ruleset arrays = (taken_length, taken_four, taken_not_four)

-- ---- A box

-- a part that runs to the end is all that follows
to_end : (s : List ℕ) (k : ℕ) → take (length s - k) (drop k s) ≡ drop k s
to_end s k = take_all (length s - k) (drop k s) (omega (arith, length-drop k s))

module _ (s : List ℕ) (at : ℕ) where
  pub whole_handed : {kind from to : ℕ} → WholeBox s at kind from to → fine (kind, part s from (to - from)) ≡ child_box_at s at
  unfolding child_box_at
  whole_handed w = rw (← w.is, ← w.bytes)

  pub whole_left : {kind from to : ℕ} → WholeBox s at kind from to → take (length s - to) (drop to s) ≡ behind_box s at
  unfolding behind_box past_box end_of behind
  whole_left {kind} {from} {to} w = rw (← w.is, le-leb to (length s) w.inner) (to_end s to)

  pub refused_handed : {k : ℕ} → refused k ≡ child_at s at → refused k ≡ child_box_at s at
  unfolding child_box_at
  refused_handed e = rw (← e)

-- of a box that is refused, the bytes of its header that could be read are gone
pub refused_left : (s : List ℕ) {k n : ℕ} → refused k ≡ child_at s 0 → n ≡ header_read s 0 → n ≤ length s → take (length s - n) (drop n s) ≡ behind_box s 0
unfolding behind_box past_box end_of behind
refused_left s {k} {n} e g h = rw (← e, zero-add, ← g, le-leb n (length s) h) (to_end s n)
