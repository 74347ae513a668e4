use native.Mathlib.Omega.{arith}
use native.Mathlib.Numerals.{add-one}
use Rattle.text.specs.Wrote.{wrote_none, wrote_then}
use Rattle.sheet.specs.Printed.{counts_text}
use Rattle.sheet.proofs.print.put_counts.Goals as goal

pub loop-answer-init : goal.loop-answer-init
unfolding counts_text
loop-answer-init c = (wrote_none _ _, omega arith)

pub loop-answer-preserved : goal.loop-answer-preserved
unfolding counts_text
loop-answer-preserved c =
    let inv = c.loop-answer.invariant in
    (rw (add-one _) (wrote_then inv.0 c.put_count-at.ensures.0), omega (arith, c.put_count-at.ensures.1, inv.1))
