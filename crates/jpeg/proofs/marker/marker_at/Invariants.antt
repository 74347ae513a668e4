-- Every byte that was passed is an FF: so the marker looked for from `at` on is the one looked for from `start` on.
use mathlib.Core.Path.{◌≡◌}
use Prim.Native.Nat.{◌-◌}
use lib.ListN.{length}
use Rattle.jpeg_rules.specs.Doc.Segments.{marker_at}
use Rattle.jpeg.proofs.marker.marker_at.Given as goal

abbrev pub invariant-loop-at : goal.invariant-loop-at
invariant-loop-at l = marker_at l.image l.at ≡ marker_at l.image l.start

abbrev pub decreases-loop-at : goal.decreases-loop-at
decreases-loop-at l = length l.image - l.at
