-- `num` is the number that the digits so far make.
use Rattle.std.proofs.Common.{◌≡◌}
use Rattle.capture_rules.specs.Doc.Time.{decimal_at}
use Rattle.dates.proofs.shape.decimal.Given as goal

abbrev pub invariant-loop-c : goal.invariant-loop-c
invariant-loop-c l = l.num ≡ decimal_at l.value l.at l.c-index
