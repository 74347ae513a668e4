-- The counts and the totals of an input, and the sheet that is printed.
use Rattle.std.specs.Prelude.{ℕ, suc, ◌+◌, Bool, List, [], ◌∷◌, ◌++◌, map, length, leb, ltb, eqb, if◌then◌else◌}
use Prim.Native.String.{String}
use Rattle.rules.specs.Doc.Outcomes.{Outcome, fine, refused, ◌>>=◌, require, given}
use Rattle.rules.specs.Doc.Lists.{only, each}
use Rattle.rules.specs.Doc.Bytes.{positions}
use Rattle.sheet_rules.specs.Doc.Rows.{row_text}
use Rattle.sheet_rules.specs.Doc.Lines.{lines, Entry, entry_in}

-- ---- What was read

abbrev pub most_lines : ℕ
most_lines = 100000

-- what the lines say, of which the first has number k. The first line of another shape, or line 100,001, refuses them by its number.
unfoldable pub entries_from : ℕ → List (List ℕ) → Outcome (List Entry)
entries_from k [] = fine []
entries_from k (l ∷ ls) = do
  _ ← require (leb k most_lines) k
  e ← given (entry_in l) k
  es ← entries_from (suc k) ls
  fine (e ∷ es)

-- Lines are counted from 1.
unfoldable pub entries : List ℕ → Outcome (List Entry)
entries input = entries_from 1 (lines input)

-- ---- Counts

-- how many files had an answer
unfoldable pub files_with : ℕ → List Entry → ℕ
files_with a es = length (only (λ e. eqb e.answer a) es)

pub record Count : Type 0 where
  pub answer : ℕ
  pub files : ℕ

unfoldable pub count_of : List Entry → ℕ → Count
count_of es a = record { answer = a; files = files_with a es }

-- one for each answer that a line can have, ascending
unfoldable pub counts : List Entry → List Count
counts es = map (count_of es) (positions 0 100)

unfoldable pub has_files : Count → Bool
has_files c = ltb 0 c.files

-- those of the answers that occurred
unfoldable pub occurred : List Count → List Count
occurred cs = only has_files cs

-- ---- Totals

unfoldable pub sum : List ℕ → ℕ
sum [] = 0
sum (n ∷ ns) = n + sum ns

unfoldable pub larger : ℕ → ℕ → ℕ
larger a b = if ltb a b then b else a

-- the largest, and 0 where there is none
unfoldable pub largest_of : List ℕ → ℕ
largest_of [] = 0
largest_of (n ∷ ns) = larger n (largest_of ns)

pub record Totals : Type 0 where
  pub files : ℕ
  pub bytes : ℕ
  pub largest : ℕ

unfoldable pub lengths : List Entry → List ℕ
lengths es = map (λ (e : Entry). e.length) es

unfoldable pub totals : List Entry → Totals
totals es = record { files = length es; bytes = sum (lengths es); largest = largest_of (lengths es) }

-- ---- The sheet

unfoldable pub count_names : List String
count_names = "answer=" ∷ " files=" ∷ []

unfoldable pub count_text : Count → List ℕ
count_text c = row_text count_names (c.answer ∷ c.files ∷ [])

unfoldable pub total_names : List String
total_names = "total files=" ∷ " bytes=" ∷ " largest=" ∷ []

unfoldable pub totals_text : Totals → List ℕ
totals_text t = row_text total_names (t.files ∷ t.bytes ∷ t.largest ∷ [])

-- Each answer that occurred, ascending, with its files, then the totals.
unfoldable pub sheet_text : List Entry → List ℕ
sheet_text es = each count_text (occurred (counts es)) ++ totals_text (totals es)

-- Only `line=` with its number, of the line that refused them.
unfoldable pub wrong_text : ℕ → List ℕ
wrong_text k = row_text ("line=" ∷ []) (k ∷ [])

unfoldable pub sheet_of : Outcome (List Entry) → List ℕ
sheet_of (fine es) = sheet_text es
sheet_of (refused k) = wrong_text k

-- the sheet of an input
unfoldable pub sheet : List ℕ → List ℕ
sheet input = sheet_of (entries input)
