-- The totals stand behind the counts: both are one text (`wrote_then`).
use Rattle.text.specs.Wrote.{wrote_then}
use Rattle.sheet.specs.Printed.{sums_text}
use Rattle.sheet.proofs.print.put_sums.Goals as goal

pub returns : goal.returns
unfolding sums_text
returns c = wrote_then c.put_counts-at.ensures.0 c.put_totals.ensures
