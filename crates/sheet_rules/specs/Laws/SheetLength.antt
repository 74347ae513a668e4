-- How long a sheet can be: 23 bytes for each of the 100 answers, and 50 for the totals.
use Rattle.std.specs.Prelude.{◌≡◌, refl, ℕ, zero, suc, ◌+◌, ◌*◌, ◌≤◌, Bool, true, false, List, [], ◌∷◌, map, length, leb, if◌then◌else◌}
use Rattle.std.proofs.Common.{arith, length-append, leb-true}
use Rattle.std.proofs.Math.Option.{Option, none, some}
use Rattle.rules.specs.Doc.Outcomes.{Outcome, fine, refused, ◌>>=◌, require, given}
use Rattle.rules.specs.Doc.Lists.{only, each}
use Rattle.rules.specs.Doc.Bytes.{positions}
use Rattle.rules.specs.Laws.Rows.{apart}
use Rattle.rules.specs.Laws.Text.{digits_most, two_digits, five_digits}
use Rattle.sheet_rules.specs.Doc.Rows.{row_text}
use Rattle.sheet_rules.specs.Doc.Lines.{lines, Entry, entry_in}
use Rattle.sheet_rules.specs.Doc.Sheet.{most_lines, entries_from, entries, Count, count_of, counts, has_files, occurred, sum, largest_of, lengths}
use Rattle.sheet_rules.specs.Doc.Sheet.{totals, count_names, count_text, total_names, totals_text, sheet_text, wrong_text, sheet_of, sheet}
use Rattle.sheet_rules.specs.Laws.Counts.{AllAllowed, files_most, bytes_most, largest_most}
use Rattle.sheet_rules.specs.Laws.Read.{read}

count_length : (c : Count) → c.answer ≤ 99 → c.files ≤ most_lines → length (count_text c) ≤ 23
unfolding count_text count_names row_text
count_length c h k =
    let a = two_digits c.answer (omega arith) in
    let n = digits_most 5 c.files (omega arith) in
    simp length-append (omega (arith, a, n))

counts_length : (es : List Entry) (p n : ℕ) → length es ≤ most_lines → p + n ≤ 100 → length (each count_text (occurred (map (count_of es) (positions p n)))) ≤ 23 * n
unfolding each occurred only positions count_of
counts_length es p zero h k = omega arith
counts_length es p (suc n) h k = go (has_files (count_of es p)) (counts_length es (suc p) n h (omega arith))
  where
    rest : List Count
    rest = only has_files (map (count_of es) (positions (suc p) n))

    go : (t : Bool) → length (each count_text rest) ≤ 23 * n → length (each count_text (if t then count_of es p ∷ rest else rest)) ≤ 23 * suc n
    go true r =
        let one = count_length (count_of es p) (omega arith) (omega (arith, files_most p es)) in
        rw (length-append (count_text (count_of es p)) (each count_text rest)) (omega (arith, one, r))
    go false r = omega (arith, r)

totals_length : (es : List Entry) → AllAllowed es → length es ≤ most_lines → length (totals_text (totals es)) ≤ 50
unfolding totals_text totals total_names row_text
totals_length es p h =
    let f = digits_most 5 (length es) (omega arith) in
    let b = digits_most 9 (sum (lengths es)) (omega (arith, bytes_most es p)) in
    let l = five_digits (largest_of (lengths es)) (omega (arith, largest_most es p)) in
    simp length-append (omega (arith, f, b, l))

sheet_text_length : (es : List Entry) → AllAllowed es → length es ≤ most_lines → length (sheet_text es) ≤ 2350
unfolding sheet_text counts
sheet_text_length es p h =
    let cs = each count_text (occurred (map (count_of es) (positions 0 100))) in
    rw (length-append cs (totals_text (totals es))) (omega (arith, counts_length es 0 100 h (omega arith), totals_length es p h))

-- no line behind line 100,001 is ever named
pub refused_line : (k : ℕ) (ls : List (List ℕ)) → k ≤ suc most_lines → (n : ℕ) → entries_from k ls ≡ refused n → n ≤ suc most_lines
unfolding entries_from
refused_line k [] h n e = absurd (apart e)
refused_line k (l ∷ ls) h n e = go (leb k most_lines) refl (entry_in l) (λ q. refused_line (suc k) ls q n) e
  where
    after : Outcome (List Entry) → Entry → Outcome (List Entry)
    after o x = o >>= λ es. fine (x ∷ es)

    ends : (o : Outcome (List Entry)) (x : Entry) → after o x ≡ refused n → o ≡ refused n
    ends (fine es) x e = absurd (apart e)
    ends (refused m) x e = cc

    go : (t : Bool) → leb k most_lines ≡ t → (o : Option Entry) → (suc k ≤ suc most_lines → entries_from (suc k) ls ≡ refused n → n ≤ suc most_lines)
        → (require t k >>= λ u. given o k >>= after (entries_from (suc k) ls)) ≡ refused n → n ≤ suc most_lines
    go false f o ih e = let z : k ≡ n = cc in omega arith
    go true f none ih e = let z : k ≡ n = cc in omega arith
    go true f (some x) ih e = ih (omega (arith, leb-true k most_lines f)) (ends (entries_from (suc k) ls) x e)

wrong_length : (k : ℕ) → k ≤ suc most_lines → length (wrong_text k) ≤ 12
unfolding wrong_text row_text
wrong_length k h = simp length-append (omega (arith, digits_most 5 k (omega arith)))

-- No sheet is longer.
pub sheet_length : (input : List ℕ) → length (sheet input) ≤ 2350
unfolding sheet sheet_of entries
sheet_length input = go (entries input) refl
  where
    go : (o : Outcome (List Entry)) → entries input ≡ o → length (sheet_of o) ≤ 2350
    go (fine es) e = let r = read input e in sheet_text_length es r.allows (omega (arith, r.few))
    go (refused k) e = omega (arith, wrong_length k (refused_line 1 (lines input) (omega arith) k e))
