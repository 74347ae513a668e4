-- What was passed has no say any more: in the outer loop the boxes from `at` on decide the answer, in the inner one the brands from `i` on.
use mathlib.Core.Path.{◌≡◌}
use Prim.Native.Nat.{◌-◌, ◌≤◌}
use lib.ListN.{length}
use Rattle.rules.specs.Doc.Heif.{is_heif}
use Rattle.brands.specs.Brands.{known_from, heif_from}
use Rattle.brands.proofs.is_heif.Given as goal

abbrev pub invariant-loop-i : goal.invariant-loop-i
invariant-loop-i l = (l.i ≤ length l.body) × (known_from l.body l.i ≡ is_heif l.buf)

abbrev pub decreases-loop-i : goal.decreases-loop-i
decreases-loop-i l = length l.body - l.i

abbrev pub invariant-boxes : goal.invariant-boxes
invariant-boxes l = heif_from l.buf l.at ≡ is_heif l.buf

abbrev pub decreases-boxes : goal.decreases-boxes
decreases-boxes l = length l.buf - l.at
