-- The bytes up to `b` are written, and each turn writes one more behind them.
use lib.ListN.{take}
use Rattle.text.specs.Wrote.{Wrote}
use Rattle.text.proofs.put.Given as goal

abbrev pub invariant-loop-b : goal.invariant-loop-b
invariant-loop-b l = Wrote (take l.b-index l.part) l.at l.initial.out l.end l.out
