-- The invariant: laying what is left from extent k on over `out` from `at` on gives what is wanted.
use mathlib.Core.Path.{◌≡◌}
use Prim.Native.Nat.{◌-◌}
use lib.ListN.{length, drop}
use lib.Seq.{sets}
use Rattle.rules.specs.OverBytes.{gathered}
use Rattle.locations.specs.Told.{extents_of}
use Rattle.join.specs.Told.{source, lies_by, joined_of}
use Rattle.join.proofs.copy.gather.Given as goal

abbrev pub invariant-loop-k : goal.invariant-loop-k
invariant-loop-k l =
    let s = source l.location.entry.construction_method l.image l.idat in
    (length l.out ≡ length l.initial.out)
    × (sets l.out l.at (drop l.left (gathered (lies_by l.location (length s)) s (drop l.k (extents_of l.location))))
    ≡ sets l.initial.out 0 (drop l.skip (joined_of l.image l.idat l.location)))

abbrev pub decreases-loop-k : goal.decreases-loop-k
decreases-loop-k l = l.k-end - l.k
