-- The digits up to `end` are the plain decimal of `n`, which is no more than is taken.
use Prim.Native.Nat.{◌-◌, ◌≤◌}
use lib.ListN.{length}
use Rattle.sheet_line.specs.Numbers.{Taken}
use Rattle.sheet_line.proofs.read_decimal.Given as goal

abbrev pub invariant-loop-digit : goal.invariant-loop-digit
invariant-loop-digit l = Taken l.s l.end l.n × (l.n ≤ l.most)

abbrev pub decreases-loop-digit : goal.decreases-loop-digit
decreases-loop-digit l = length l.s - l.end
