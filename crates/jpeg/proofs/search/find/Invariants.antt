-- The segments from `at` on decide the answer; a segment that is passed leads forward.
use mathlib.Core.Path.{◌≡◌}
use Prim.Native.Nat.{◌-◌}
use lib.ListN.{length}
use Rattle.jpeg_rules.specs.Doc.Block.{found_in}
use Rattle.jpeg.specs.Search.{found_from}
use Rattle.jpeg.proofs.search.find.Given as goal

abbrev pub invariant-loop-at : goal.invariant-loop-at
invariant-loop-at l = found_from l.image l.at ≡ found_in l.image

abbrev pub decreases-loop-at : goal.decreases-loop-at
decreases-loop-at l = length l.image - l.at
