-- The two numbers at hand have the divisor of the two passed, and the second grows less.
use mathlib.Core.Path.{◌≡◌}
use Rattle.capture_rules.specs.Doc.Fraction.{gcd}
use Rattle.fraction.proofs.gcd.Given as goal

abbrev pub invariant-loop-y : goal.invariant-loop-y
invariant-loop-y l = gcd l.x l.y ≡ gcd l.a l.b

abbrev pub decreases-loop-y : goal.decreases-loop-y
decreases-loop-y l = l.y
