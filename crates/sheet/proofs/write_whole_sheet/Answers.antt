-- The buffer holds the longest sheet, so nothing is cut.
use mathlib.Core.Path.{◌∙◌}
use native.Mathlib.Omega.{arith}
use lib.ListN.{length}
use lib.Seq.{take_all}
use Rattle.rules.specs.Doc.Listing.{printed}
use Rattle.sheet_rules.specs.Doc.Sheet.{sheet}
use Rattle.sheet_rules.specs.Laws.SheetLength.{sheet_length}
use Rattle.sheet.proofs.write_whole_sheet.Goals as goal

pub returns : goal.returns
unfolding printed
returns c =
    let a = c.args in
    let told = c.write_sheet.ensures in
    let limit = sheet_length a.lines.now in
    let whole = take_all (length a.out.now) (sheet a.lines.now) (omega (arith, limit)) in
    record {
      value = (told.value, omega (arith, told.value, limit));
      out_after = told.out_after ∙ rw (told.value, printed, whole);
    }
