-- Texts written one behind the other are one text (`wrote_then`), here three.
use Rattle.capture_rules.specs.Doc.Line.{line_text}
use Rattle.text.specs.Wrote.{wrote_then}
use Rattle.capture_line.proofs.put_refusal.Goals as goal

pub returns : goal.returns
unfolding line_text
returns c = wrote_then (wrote_then c.put-at.ensures (rw c.from.ensures at c.put_decimal-at.ensures)) c.put.ensures
