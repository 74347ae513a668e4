-- How much of an input has to be read: 100,000 lines of the shape have at most 2,300,000 bytes, and of a longer input that many bytes and one more
-- have the line that refuses it, so that nobody has to read on.
use Rattle.std.specs.Prelude.{◌≡◌, refl, ℕ, zero, suc, ◌+◌, ◌-◌, ◌*◌, ◌≤◌, ◌<◌, Bool, true, false, ◌⊎◌, List, ◌++◌, length, take, drop, leb}
use Rattle.std.proofs.Common.{sym, ap, ◌∙◌, arith, inl, inr, append_assoc, length-append, length-take, take-append-drop, take_all, leb-true, leb-false}
use Rattle.std.proofs.Math.Seq.{take-append-add}
use Rattle.rules.specs.Doc.Outcomes.{Outcome, fine, refused}
use Rattle.sheet_rules.specs.Doc.Lines.{lines, Entry, line_text}
use Rattle.sheet_rules.specs.Doc.Sheet.{most_lines, entries_from, entries, sheet_of, sheet}
use Rattle.sheet_rules.specs.Laws.Shape.{line_some, line_limit}
use Rattle.sheet_rules.specs.Laws.Entries.{GoodLine, OtherLine, good_or_other, entries_line, entries_many, entries_other}
use Rattle.sheet_rules.specs.Laws.Read.{read, lines_limit}

-- 23 for each line
abbrev pub most_bytes : ℕ
most_bytes = 2300000

-- Input that is not refused fits.
pub read_fits : (input : List ℕ) {es : List Entry} → entries input ≡ fine es → length input ≤ most_bytes
read_fits input {es} e =
    let r = read input e in
    let l = lines_limit es r.allows in
    rw r.splits (omega (arith, l, r.few))

-- So longer input is refused.
pub longer_refused : (input : List ℕ) → most_bytes < length input → (k : ℕ) × (entries input ≡ refused k)
longer_refused input h = go (entries input) refl
  where
    go : (o : Outcome (List Entry)) → entries input ≡ o → (k : ℕ) × (entries input ≡ refused k)
    go (fine es) e = absurd (omega (arith, read_fits input e))
    go (refused k) e = (k, e)

-- ---- The front of an input

-- bytes of which the front is no line of the shape
other_front : (m : ℕ) (s : List ℕ) → OtherLine s → OtherLine (take m s)
other_front m s p e rest a f =
    p e (rest ++ drop m s) a (sym (take-append-drop m s) ∙ rw f (append_assoc (line_text e) rest (drop m s)))

-- the front of a line and more is the line and the front of the rest
good_front : (m : ℕ) (l s : List ℕ) → length l ≤ m → take m (l ++ s) ≡ l ++ take (m - length l) s
good_front m l s h =
    let n : length l + (m - length l) ≡ m = omega arith in
    rw n at (take-append-add l s (m - length l))

-- After j lines of the shape, the front of the rest is read as the rest is, if both and 23 bytes for each of the j are more than those 2,300,000.
module _ (j m : ℕ) (few : j ≤ most_lines) (much : most_bytes < m + 23 * j) where
  some_left : (s : List ℕ) → 1 ≤ length s → 1 ≤ length (take m s)
  some_left s h = rw (length-take m s) (omega arith)

  front_other : (s : List ℕ) → 1 ≤ length s → j < most_lines → OtherLine s → entries_from (suc j) (lines (take m s)) ≡ entries_from (suc j) (lines s)
  front_other s h k p =
      entries_other (suc j) (take m s) (some_left s h) k (other_front m s p) ∙ sym (entries_other (suc j) s h k p)

  front_many : (s : List ℕ) → 1 ≤ length s → most_lines ≤ j → entries_from (suc j) (lines (take m s)) ≡ entries_from (suc j) (lines s)
  front_many s h k = entries_many (suc j) (take m s) (some_left s h) (omega arith) ∙ sym (entries_many (suc j) s h (omega arith))

  front_good : (s : List ℕ) (g : GoodLine s) → j < most_lines
      → (length (line_text g.entry) ≤ m → entries_from (suc (suc j)) (lines (take (m - length (line_text g.entry)) g.rest)) ≡ entries_from (suc (suc j)) (lines g.rest))
      → entries_from (suc j) (lines (take m s)) ≡ entries_from (suc j) (lines s)
  front_good s g k next =
      let l = line_text g.entry in
      let h : length l ≤ m = omega (arith, line_limit g.entry g.allows) in
      rw (g.splits, good_front m l g.rest h, entries_line (suc j) g.entry (take (m - length l) g.rest) k g.allows, entries_line (suc j) g.entry g.rest k g.allows, next h)

front_from : (n j m : ℕ) → j ≤ most_lines → most_bytes < m + 23 * j → (s : List ℕ) → length s ≤ n → entries_from (suc j) (lines (take m s)) ≡ entries_from (suc j) (lines s)
front_from zero j m few much s h = rw (take_all m s (omega arith))
front_from (suc n) j m few much s h = go (leb (length s) m) refl (leb most_lines j) refl (good_or_other s) (λ i k l p. front_from n i k l p)
  where
    go : (t : Bool) → leb (length s) m ≡ t → (u : Bool) → leb most_lines j ≡ u → GoodLine s ⊎ OtherLine s
        → ((i k : ℕ) → i ≤ most_lines → most_bytes < k + 23 * i → (r : List ℕ) → length r ≤ n → entries_from (suc i) (lines (take k r)) ≡ entries_from (suc i) (lines r))
        → entries_from (suc j) (lines (take m s)) ≡ entries_from (suc j) (lines s)
    go true e u f o next = rw (take_all m s (leb-true (length s) m e))
    go false e true f o next = front_many j m few much s (omega (arith, leb-false (length s) m e)) (leb-true most_lines j f)
    go false e false f (inr p) next = front_other j m few much s (omega (arith, leb-false (length s) m e)) (leb-false most_lines j f) p
    go false e false f (inl g) next =
        let l = line_text g.entry in
        let size = line_limit g.entry g.allows in
        let k = leb-false most_lines j f in
        let split = ap length g.splits ∙ length-append l g.rest in
        front_good j m few much s g k (λ q. next (suc j) (m - length l) (omega arith) (omega arith) g.rest (omega (arith, line_some g.entry)))

-- The front of an input, if it has more than 2,300,000 bytes, or is all of it, is read as the input is.
pub front_read : (m : ℕ) → most_bytes < m → (input : List ℕ) → entries (take m input) ≡ entries input
unfolding entries
front_read m h input = front_from (length input) 0 m (omega arith) (omega arith) input (omega arith)

-- So the sheet of the front is the sheet of the whole, however long that is.
pub front_sheet : (m : ℕ) → most_bytes < m → (input : List ℕ) → sheet (take m input) ≡ sheet input
unfolding sheet
front_sheet m h input = ap sheet_of (front_read m h input)
