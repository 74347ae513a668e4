-- The line of a file: the number that extraction answers for it, 0 for a block, and the block's length, 0 for a refusal.
use Rattle.std.specs.Prelude.{◌≡◌, refl, ℕ, List, [], ◌++◌, length}
use Rattle.rules.specs.Doc.Outcomes.{Outcome, fine, refused}
use Rattle.rules.specs.Doc.Text.{ascii}
use Rattle.rules.specs.Doc.Listing.{newline}
use Rattle.rules.specs.Cases.{line, H}
use Rattle.jpeg_rules.specs.Doc.Either.{either_block}
use Rattle.jpeg_rules.specs.Cases.{J}
use Rattle.jpeg_rules.specs.Unfold as jpeg
use Rattle.sheet_rules.specs.Doc.Lines.{Entry, line_text}
use Rattle.sheet_rules.specs.Unfold as sheet

unfoldable pub entry_for : Outcome (List ℕ) → Entry
entry_for (fine ps) = record { answer = 0; length = length ps }
entry_for (refused n) = record { answer = n; length = 0 }

-- HEIF or JPEG
unfoldable pub intake_entry : List ℕ → Entry
intake_entry img = entry_for (either_block img)

-- in the shape that the morning sheet reads
unfoldable pub intake_text : List ℕ → List ℕ
intake_text img = line_text (intake_entry img)

-- Three of them, computed: file H, the JPEG file J, and an empty one.
heif : intake_text H ≡ ascii "answer=0 length=4" ++ newline
unfolding intake_text intake_entry entry_for jpeg.request sheet.request H line
heif = refl

jpeg_file : intake_text J ≡ ascii "answer=0 length=4" ++ newline
unfolding intake_text intake_entry entry_for jpeg.request sheet.request J line
jpeg_file = refl

empty : intake_text [] ≡ ascii "answer=1 length=0" ++ newline
unfolding intake_text intake_entry entry_for jpeg.request sheet.request
empty = refl
