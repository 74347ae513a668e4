-- The buffer holds the longest line, so nothing is cut.
use Rattle.std.proofs.Common.{◌∙◌, arith, length, take_all}
use Rattle.rules.specs.Doc.Listing.{printed}
use Rattle.capture_rules.specs.Demands.Photo.{line_limit}
use Rattle.capture_rules.specs.Doc.Capture.{photo}
use Rattle.capture_rules.specs.Doc.Line.{line_text}
use Rattle.capture_line.proofs.photo_line_whole.Goals as goal

pub returns-clause-value : goal.returns-clause-value
returns-clause-value c =
    let told = c.photo_line.ensures in
    (told.value, omega (arith, told.value, line_limit c.args.image.now c.args.block.now))

pub returns-clause-out_after : goal.returns-clause-out_after
unfolding printed
returns-clause-out_after c =
    let a = c.args in
    let told = c.photo_line.ensures in
    let line = line_text (photo a.image.now a.block.now) in
    told.out_after ∙ rw (told.value, printed, take_all (length a.out.now) line (omega (arith, line_limit a.image.now a.block.now)))
