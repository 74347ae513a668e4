-- The answer of extraction as an entry, and its line in a buffer. With room for the block and for the line they are the file's own.
use Rattle.std.specs.Prelude.{◌≡◌, ℕ, ◌≤◌, List, ◌++◌, drop}
use Rattle.std.proofs.Math.Path.{refl}
use Rattle.std.proofs.Common.{sym, ◌∙◌, le_trans, arith, append_assoc, le-leb}
use Rattle.std.proofs.Math.ListN.{length, length-take}
use Rattle.rules.specs.Doc.Outcomes.{Outcome, fine, refused}
use Rattle.rules.specs.Doc.Listing.{newline, named}
use Rattle.rules.specs.Doc.Answers.{Answer, answer_with, answer_by}
use Rattle.rules.specs.Laws.Endian.{Bytes}
use Rattle.rules.specs.Laws.Over.{over_room}
use Rattle.jpeg_rules.specs.Doc.Either.{either_block, either_answer}
use Rattle.jpeg_rules.specs.Demands.One.{either_limit}
use Rattle.sheet_rules.specs.Doc.Rows.{row_text}
use Rattle.sheet_rules.specs.Doc.Lines.{Entry, line_names, line_text}
use Rattle.sheet_rules.specs.Laws.Shape.{line_limit}
use Rattle.output.specs.Copied.{Copied}
use Rattle.answer_numbers.specs.Numbers.{numbers_text}
use Rattle.intake_line.specs.Line.{entry_for, intake_entry, intake_text}
use Rattle.intake_line.specs.Demands.{intake_allowed}

abbrev pub told_entry : Answer → Entry
told_entry a = record { answer = a.number; length = a.length }

-- its line is both numbers, as they are put, and a newline
pub told_line : (a : Answer) → line_text (told_entry a) ≡ numbers_text a.number a.length ++ newline
unfolding line_text line_names row_text numbers_text
told_line a = sym (append_assoc (named "answer=" a.number) (named " length=" a.length) newline)

module _ (img out : List ℕ) (bytes : Bytes img) (room : 65531 ≤ length out) where
  -- a block that extraction found had room
  told_entry_is : told_entry (either_answer img out) ≡ intake_entry img
  unfolding intake_entry entry_for answer_by answer_with
  told_entry_is = go (either_block img) refl
    where
      go : (o : Outcome (List ℕ)) → either_block img ≡ o → told_entry (answer_by o img out) ≡ entry_for o
      go (fine ps) e = rw (le-leb (length ps) (length out) (le_trans (either_limit img bytes e) room))
      go (refused n) e = refl

  -- and no line is longer than 23 bytes
  pub line_whole : {r : ℕ} {before after : List ℕ} → 23 ≤ length before → Copied (line_text (told_entry (either_answer img out))) 0 before r after
      → ((r ≡ length (intake_text img)) × (r ≤ 23)) × (after ≡ intake_text img ++ drop r before)
  unfolding intake_text
  line_whole {r} {before} h c =
      let text = line_text (intake_entry img) in
      let limit = line_limit (intake_entry img) (intake_allowed img bytes) in
      let line = rw told_entry_is at c in
      let place : r ≡ length text = omega (arith, limit, h, rw length-take at line.place) in
      ((place, omega (arith, place, limit)), line.buffer ∙ rw place (over_room text before (le_trans limit h)))
