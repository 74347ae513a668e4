-- The invariant: the total from extent k on, with what there is so far, is the total of all.
use mathlib.Core.Path.{◌≡◌}
use Prim.Native.Nat.{◌-◌, ◌≤◌}
use lib.ListN.{drop}
use Rattle.rules.specs.OverBytes.{total_from}
use Rattle.locations.specs.Told.{extents_of}
use Rattle.join.specs.Told.{lies_by}
use Rattle.join.proofs.total.total_size.Given as goal

abbrev pub invariant-loop-k : goal.invariant-loop-k
invariant-loop-k l =
    (total_from (lies_by l.location l.len) l.total (drop l.k (extents_of l.location)) ≡ total_from (lies_by l.location l.len) 0 (extents_of l.location))
    × (l.total ≤ 65535)

abbrev pub decreases-loop-k : goal.decreases-loop-k
decreases-loop-k l = l.k-end - l.k
