-- Texts written one behind the other are one text (`wrote_then`), here four.
use Rattle.sheet_rules.specs.Doc.Rows.{row_text}
use Rattle.sheet_rules.specs.Doc.Sheet.{total_names, totals_text}
use Rattle.text.specs.Wrote.{wrote_then}
use Rattle.sheet.proofs.print.put_totals.Goals as goal

pub returns : goal.returns
unfolding totals_text total_names row_text
returns c =
    wrote_then c.put_named-at.ensures (wrote_then c.put_named-at-2.ensures (wrote_then c.put_named-at-3.ensures c.put.ensures))
