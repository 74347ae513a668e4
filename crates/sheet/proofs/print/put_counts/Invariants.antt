-- The lines of the answers below `answer` are written, and each turn writes one more behind them.
use Prim.Native.Nat.{◌*◌, ◌≤◌}
use Rattle.text.specs.Wrote.{Wrote}
use Rattle.sheet.specs.Printed.{counts_text}
use Rattle.sheet.proofs.print.put_counts.Given as goal

abbrev pub invariant-loop-answer : goal.invariant-loop-answer
invariant-loop-answer l = Wrote (counts_text l.counts l.answer) 0 l.initial.out l.at l.out × (l.at ≤ 55 * l.answer)
