-- What was printed and is counted again gives the same: lines that were printed of entries, and a sheet that was printed of them.
use Rattle.std.specs.Prelude.{◌≡◌, refl, ℕ, suc, ◌+◌, ◌≤◌, List, [], ◌∷◌, ◌++◌, map, length, get_or}
use Rattle.std.proofs.Common.{sym, ap, ◌∙◌, arith, append-nil}
use Rattle.rules.specs.Doc.Outcomes.{fine}
use Rattle.rules.specs.Doc.Lists.{each}
use Rattle.sheet_rules.specs.Doc.Rows.{numbers_in}
use Rattle.sheet_rules.specs.Doc.Lines.{lines, Entry, line_text}
use Rattle.sheet_rules.specs.Doc.Sheet.{most_lines, entries_from, entries, Count, counts, occurred, Totals, totals, count_names, count_text, total_names, totals_text}
use Rattle.sheet_rules.specs.Doc.Sheet.{sheet_text, sheet_of, sheet}
use Rattle.sheet_rules.specs.Laws.Rows.{Flat, count_names_is, total_names_is, numbers_back, row_flat}
use Rattle.sheet_rules.specs.Laws.Lines.{flat_line, each_line}
use Rattle.sheet_rules.specs.Laws.Entries.{entries_none, entries_line}
use Rattle.sheet_rules.specs.Laws.Counts.{AllAllowed}
use Rattle.sheet_rules.specs.Laws.Read.{read}
use Rattle.sheet_rules.specs.Demands.Files.{files_of, printed_files_sum}

-- ---- Lines

read_from : (k : ℕ) (es : List Entry) → AllAllowed es → k + length es ≤ suc most_lines → entries_from k (lines (each line_text es)) ≡ fine es
unfolding each
read_from k [] p h = entries_none k
read_from k (e ∷ es) p h = rw (entries_line k e (each line_text es) (omega (arith, h)) p.0, read_from (suc k) es p.1 (omega (arith, h)))

-- Lines that are printed of what is allowed, 100,000 of them at most, say just that.
pub printed_read : (es : List Entry) → AllAllowed es → length es ≤ most_lines → entries (each line_text es) ≡ fine es
unfolding entries
printed_read es p h = read_from 1 es p (omega arith)

-- So the sheet of such lines is the sheet of what they were printed of.
pub printed_counted : (es : List Entry) → AllAllowed es → length es ≤ most_lines → sheet (each line_text es) ≡ sheet_text es
unfolding sheet sheet_of
printed_counted es p h = rw (printed_read es p h)

-- And every input that is not refused is such lines: printed again they are the same bytes.
pub read_printed : (input : List ℕ) {es : List Entry} → entries input ≡ fine es → each line_text es ≡ input
read_printed input e = sym (read input e).splits

-- ---- A sheet

-- the numbers of a line of counts, and of that of the totals
unfoldable pub count_in : List ℕ → Count
count_in l = record { answer = get_or (numbers_in count_names l) 0 0; files = get_or (numbers_in count_names l) 1 0 }

unfoldable pub totals_in : List ℕ → Totals
totals_in l = record { files = get_or (numbers_in total_names l) 0 0; bytes = get_or (numbers_in total_names l) 1 0; largest = get_or (numbers_in total_names l) 2 0 }

-- what a printed sheet says: its last line has the totals, each one before it a count
pub record Said : Type 0 where
  pub counts : List Count
  pub totals : Totals

unfoldable pub count_then : Count → Said → Said
count_then c s = record { counts = c ∷ s.counts; totals = s.totals }

unfoldable pub said_in : List (List ℕ) → Said
said_in [] = record { counts = []; totals = totals_in [] }
said_in (l ∷ []) = record { counts = []; totals = totals_in l }
said_in (l ∷ m ∷ ls) = count_then (count_in l) (said_in (m ∷ ls))

count_back : (c : Count) → count_in (count_text c) ≡ c
unfolding count_in count_text count_names
count_back c = rw (numbers_back count_names count_names_is (c.answer ∷ c.files ∷ []) refl)

totals_back : (t : Totals) → totals_in (totals_text t) ≡ t
unfolding totals_in totals_text total_names
totals_back t = rw (numbers_back total_names total_names_is (t.files ∷ t.bytes ∷ t.largest ∷ []) refl)

said_back : (cs : List Count) (t : Totals) → said_in (map count_text cs ++ (totals_text t ∷ [])) ≡ record { counts = cs; totals = t }
unfolding said_in count_then
said_back [] t = rw (totals_back t)
said_back (c ∷ []) t = rw (count_back c, totals_back t)
said_back (c ∷ d ∷ cs) t = rw (count_back c, said_back (d ∷ cs) t)

count_flat : (c : Count) → Flat (count_text c)
unfolding count_text
count_flat c = row_flat count_names count_names_is (c.answer ∷ c.files ∷ [])

totals_flat : (t : Totals) → Flat (totals_text t)
unfolding totals_text
totals_flat t = row_flat total_names total_names_is (t.files ∷ t.bytes ∷ t.largest ∷ [])

sheet_lines : (es : List Entry) → lines (sheet_text es) ≡ map count_text (occurred (counts es)) ++ (totals_text (totals es) ∷ [])
unfolding sheet_text lines
sheet_lines es =
    let last = flat_line (totals_text (totals es)) [] (totals_flat (totals es)) in
    each_line count_text count_flat (occurred (counts es)) (totals_text (totals es))
    ∙ ap (λ (ls : List (List ℕ)). map count_text (occurred (counts es)) ++ ls) (rw (append-nil (totals_text (totals es))) at last)

-- A printed sheet says the counts and the totals that it was printed of.
pub sheet_read : (es : List Entry) → said_in (lines (sheet_text es)) ≡ record { counts = occurred (counts es); totals = totals es }
sheet_read es = rw (sheet_lines es) (said_back (occurred (counts es)) (totals es))

-- Of any input that is not refused: the sheet that is printed, read and counted again, gives the totals of the input, and the files that it
-- says of each answer sum to the files of its totals.
pub sheet_counted : (input : List ℕ) {es : List Entry} → entries input ≡ fine es → (said_in (lines (sheet input))).totals ≡ totals es
unfolding sheet sheet_of
sheet_counted input {es} e = rw e (ap (λ (s : Said). s.totals) (sheet_read es))

pub files_counted : (input : List ℕ) {es : List Entry} → entries input ≡ fine es
    → files_of (said_in (lines (sheet input))).counts ≡ (said_in (lines (sheet input))).totals.files
unfolding sheet sheet_of
files_counted input {es} e = rw (e, sheet_read es) (printed_files_sum input e)
