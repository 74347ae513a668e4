-- The lines of an input, and the shape of one: exactly `answer=A length=L` and a newline.
use Rattle.std.specs.Prelude.{ℕ, Bool, ◌&&◌, ◌||◌, List, [], ◌∷◌, get_or, leb, eqb, if◌then◌else◌}
use Prim.Native.String.{String}
use Rattle.std.proofs.Math.Option.{Option, none, some}
use Rattle.rules.specs.Doc.Lists.{same}
use Rattle.sheet_rules.specs.Doc.Rows.{row_text, numbers_in}

-- ---- Lines

-- a letter in front of lines is the first one's
unfoldable pub on_first : ℕ → List (List ℕ) → List (List ℕ)
on_first c [] = (c ∷ []) ∷ []
on_first c (l ∷ ls) = (c ∷ l) ∷ ls

-- A newline ends a line, and belongs to it.
unfoldable pub onto : ℕ → List (List ℕ) → List (List ℕ)
onto c ls = if eqb c 10 then (c ∷ []) ∷ ls else on_first c ls

-- Bytes behind the last newline are a line too, one without its newline.
unfoldable pub lines : List ℕ → List (List ℕ)
lines [] = []
lines (c ∷ s) = onto c (lines s)

-- ---- The shape of a line

-- what a line says of a file
pub record Entry : Type 0 where
  pub answer : ℕ
  pub length : ℕ

unfoldable pub line_names : List String
line_names = "answer=" ∷ " length=" ∷ []

unfoldable pub line_text : Entry → List ℕ
line_text e = row_text line_names (e.answer ∷ e.length ∷ [])

-- Answers are at most 99, lengths at most 65,535, and zero unless the answer is 0.
unfoldable pub allowed : Entry → Bool
allowed e = leb e.answer 99 && leb e.length 65535 && (eqb e.answer 0 || eqb e.length 0)

-- what the numbers of a line say, whatever its shape
unfoldable pub entry_of : List ℕ → Entry
entry_of l = record { answer = get_or (numbers_in line_names l) 0 0; length = get_or (numbers_in line_names l) 1 0 }

-- what a line says, if it is the line of that and allowed; none, if it is of another shape
unfoldable pub entry_in : List ℕ → Option Entry
entry_in l = if same l (line_text (entry_of l)) && allowed (entry_of l) then some (entry_of l) else none
