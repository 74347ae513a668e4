-- What is written of counts in a buffer of them, and that it is the sheet of what was counted.
use Rattle.std.specs.Prelude.{◌≡◌, Bool, get_or, if◌then◌else◌}
use Rattle.std.proofs.Math.Path.{refl, sym}
use Prim.Native.Nat.{ℕ, zero, suc, ◌+◌, ◌≤◌, ◌<◌}
use native.Mathlib.Omega.{arith}
use Rattle.std.proofs.Math.Bool.{true, false}
use mathlib.Core.List.{List, [], ◌∷◌, ◌++◌, map, append_assoc, append-nil}
use Rattle.std.proofs.Common.{lt-ltb, le-ltb}
use Rattle.rules.specs.Doc.Outcomes.{refused}
use Rattle.rules.specs.Doc.Lists.{only, each}
use Rattle.rules.specs.Doc.Bytes.{positions}
use Rattle.sheet_rules.specs.Doc.Lines.{Entry}
use Rattle.sheet_rules.specs.Doc.Sheet.{entries, Count, count_of, counts, files_with, has_files, occurred, count_text, totals_text, sheet_text, wrong_text, sheet_of, sheet}
use Rattle.sheet.specs.declared.counted.Totals.{Totals}
use Rattle.sheet.specs.Counting.{Tally, totalled, Summed}

abbrev counted : ℕ → ℕ → Count
counted answer files = record { answer = answer; files = files }

-- the line of an answer, if it has files
unfoldable pub count_line : ℕ → ℕ → List ℕ
count_line answer files = if has_files (counted answer files) then count_text (counted answer files) else []

pub line_none : (answer files : ℕ) → files ≡ 0 → count_line answer files ≡ []
unfolding count_line has_files
line_none answer files e = rw (le-ltb 0 files (omega (arith, e)))

pub line_some : (answer files : ℕ) → (files ≡ 0 → ⊥) → count_line answer files ≡ count_text (counted answer files)
unfolding count_line has_files
line_some answer files e = rw (lt-ltb 0 files (omega (arith, e)))

-- the lines of the first n answers
unfoldable pub counts_text : List ℕ → ℕ → List ℕ
counts_text cs zero = []
counts_text cs (suc n) = counts_text cs n ++ count_line n (get_or cs n 0)

unfoldable pub sums_text : List ℕ → Totals → List ℕ
sums_text cs t = counts_text cs 100 ++ totals_text (totalled t)

-- ---- The counts of the definition

module _ (cs : List ℕ) (es : List Entry) (tally : Tally cs es) where
  -- the lines of the answers from p on
  abbrev lines_from : ℕ → ℕ → List ℕ
  lines_from p n = each count_text (occurred (map (count_of es) (positions p n)))

  lines_next : (p n : ℕ) → p < 100 → lines_from p (suc n) ≡ count_line p (get_or cs p 0) ++ lines_from (suc p) n
  unfolding each occurred only positions count_of count_line
  lines_next p n h = rw (tally.files p h) (go (has_files (counted p (files_with p es))))
    where
      go : (t : Bool) → each count_text (if t then counted p (files_with p es) ∷ occurred (map (count_of es) (positions (suc p) n)) else occurred (map (count_of es) (positions (suc p) n)))
          ≡ (if t then count_text (counted p (files_with p es)) else []) ++ lines_from (suc p) n
      go true = refl
      go false = refl

  counts_from_is : (p n : ℕ) → p + n ≤ 100 → counts_text cs p ++ lines_from p n ≡ counts_text cs (p + n)
  unfolding counts_text each occurred only positions
  counts_from_is p zero h = let e : p + 0 ≡ p = omega arith in rw e (append-nil (counts_text cs p))
  counts_from_is p (suc n) h =
      let e : p + suc n ≡ suc p + n = omega arith in
      rw (lines_next p n (omega arith), ← append_assoc (counts_text cs p) (count_line p (get_or cs p 0)) (lines_from (suc p) n), e) (counts_from_is (suc p) n (omega arith))

  counts_are : counts_text cs 100 ≡ each count_text (occurred (counts es))
  unfolding counts counts_text
  counts_are = sym (counts_from_is 0 100 (omega arith))

-- ---- The sheet

module _ (s : List ℕ) where
  pub sums_sheet : (cs : List ℕ) (t : Totals) → Summed s cs (totalled t) → sheet s ≡ sums_text cs t
  unfolding sheet sheet_of sheet_text sums_text
  sums_sheet cs t m = rw (m.are, counts_are cs m.es m.sums.tally, m.sums.totals_are)

  pub wrong_sheet : {k : ℕ} → entries s ≡ refused k → sheet s ≡ wrong_text k
  unfolding sheet sheet_of
  wrong_sheet e = rw e
