-- Texts written one behind the other are one text (`wrote_then`).
use Rattle.sheet_rules.specs.Doc.Rows.{row_text}
use Rattle.sheet_rules.specs.Doc.Sheet.{wrong_text}
use Rattle.text.specs.Wrote.{wrote_then}
use Rattle.sheet.proofs.print.put_wrong.Goals as goal

pub returns : goal.returns
unfolding wrong_text row_text
returns c = wrote_then c.put_named-at.ensures c.put.ensures
