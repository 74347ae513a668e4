-- Every line that the intake writes is of the shape that the morning sheet reads; so the sheet of a morning's lines is the sheet of the files.
use Rattle.std.specs.Prelude.{◌≡◌, refl, ℕ, ◌≤◌, List, [], ◌∷◌, ◌++◌, map, length}
use Rattle.std.proofs.Common.{ap, arith, inl, inr}
use Rattle.std.proofs.lemmas.List.{length-map}
use Rattle.rules.specs.Doc.Outcomes.{Outcome, fine, refused}
use Rattle.rules.specs.Doc.Lists.{each}
use Rattle.rules.specs.Laws.Endian.{Bytes}
use Rattle.rules.specs.Laws.Numbered.{Within, with_number}
use Rattle.jpeg_rules.specs.Doc.Either.{either_block}
use Rattle.jpeg_rules.specs.Laws.Refusals.{either_most}
use Rattle.jpeg_rules.specs.Demands.One.{either_limit}
use Rattle.sheet_rules.specs.Doc.Lines.{line_text}
use Rattle.sheet_rules.specs.Doc.Sheet.{most_lines, sheet_text, sheet}
use Rattle.sheet_rules.specs.Laws.Shape.{Allowed}
use Rattle.sheet_rules.specs.Laws.Counts.{AllAllowed}
use Rattle.sheet_rules.specs.Demands.Again.{printed_counted}
use Rattle.intake_line.specs.Line.{entry_for, intake_entry, intake_text}

-- ---- One file

-- Numbers are at most 33 and lengths at most 65,531, and beside a refusal the length is 0.
pub intake_allowed : (img : List ℕ) → Bytes img → Allowed (intake_entry img)
unfolding intake_entry entry_for
intake_allowed img b = go (either_block img) refl (either_most img)
  where
    go : (o : Outcome (List ℕ)) → either_block img ≡ o → Within (λ n. n ≤ 33) o → Allowed (entry_for o)
    go (fine ps) e p = record { answer = omega arith; length = omega (arith, either_limit img b e); beside = inl refl }
    go (refused n) e (with_number p) = record { answer = omega (arith, p); length = omega arith; beside = inr refl }

-- ---- A morning

abbrev pub AllBytes : List (List ℕ) → Type 0
AllBytes [] = Unit
AllBytes (img ∷ imgs) = Bytes img × AllBytes imgs

all_allowed : (imgs : List (List ℕ)) → AllBytes imgs → AllAllowed (map intake_entry imgs)
all_allowed [] b = tt
all_allowed (img ∷ imgs) b = (intake_allowed img b.0, all_allowed imgs b.1)

-- the files' lines are those of what is said of the files
lines_of : (imgs : List (List ℕ)) → each intake_text imgs ≡ each line_text (map intake_entry imgs)
unfolding each intake_text
lines_of [] = refl
lines_of (img ∷ imgs) = ap (λ (l : List ℕ). line_text (intake_entry img) ++ l) (lines_of imgs)

-- A whole morning: of up to 100,000 files, the sheet of their lines is the counts and the totals of the files themselves.
pub morning : (imgs : List (List ℕ)) → AllBytes imgs → length imgs ≤ most_lines → sheet (each intake_text imgs) ≡ sheet_text (map intake_entry imgs)
morning imgs b h = rw (lines_of imgs) (printed_counted (map intake_entry imgs) (all_allowed imgs b) (rw (length-map imgs intake_entry) h))
