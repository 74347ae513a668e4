-- The boxes from `at` on decide the answer, given whether an `ftyp` was met before; a box that is passed leads forward.
use mathlib.Core.Path.{◌≡◌}
use Prim.Native.Nat.{◌-◌}
use lib.ListN.{length}
use Rattle.isobmff.specs.Top.{opened_body, opened_from}
use Rattle.isobmff.proofs.top.parse.Given as goal

abbrev pub invariant-loop-at : goal.invariant-loop-at
invariant-loop-at l = opened_from l.image l.ftyp_checked l.at ≡ opened_body l.image

abbrev pub decreases-loop-at : goal.decreases-loop-at
decreases-loop-at l = length l.image - l.at
