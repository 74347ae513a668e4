-- Without files nothing is written. Else texts one behind the other are one text (`wrote_then`), and no number is long (`twenty_digits`).
use native.Mathlib.Omega.{arith}
use Rattle.rules.specs.Laws.Text.{twenty_digits}
use Rattle.sheet_rules.specs.Doc.Rows.{row_text}
use Rattle.sheet_rules.specs.Doc.Sheet.{count_names, count_text}
use Rattle.text.specs.Wrote.{wrote_none, wrote_then}
use Rattle.sheet.specs.Printed.{line_none, line_some}
use Rattle.sheet.proofs.print.put_count.Goals as goal

pub returns-then-files-eq0 : goal.returns-then-files-eq0
returns-then-files-eq0 c =
    let a = c.args in
    (rw (line_none a.answer a.files c.if-files-eq0.true) (wrote_none _ _), omega arith)

pub returns : goal.returns
unfolding count_text count_names row_text
returns c =
    let some = line_some c.args.answer c.args.files c.if-files-eq0.false in (
      rw some (wrote_then c.put_named-at.ensures (wrote_then c.put_named-at-2.ensures c.put.ensures)),
      omega (arith, c.put_named-at.ensures.place, c.put_named-at-2.ensures.place, c.put.ensures.place, twenty_digits c.args.answer c.ranges.answer.fits, twenty_digits c.args.files c.ranges.files.fits),
    )
