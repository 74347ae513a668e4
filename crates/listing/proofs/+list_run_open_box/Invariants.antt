-- Two calls that make each other's bytes fewer: a run's box has fewer than the run, and a run in a box no more than the box. A run of children may
-- have as many bytes as the body that it fills: so that this counts as less, a box has one more than twice its bytes. The loop: of the lines of the
-- whole run those of the boxes from `at` on are left.
use mathlib.Core.Path.{◌≡◌}
use Prim.Native.Nat.{◌+◌, ◌-◌, ◌*◌, ◌≤◌}
use lib.ListN.{length}
use Rattle.rules.specs.Doc.Listing.{list_run}
use Rattle.listing.specs.Lines.{Left}
use Rattle.listing.proofs.+list_run_open_box.Given as goal

abbrev pub decreases-list_run : goal.decreases-list_run
decreases-list_run l = 2 * (length l.s.now - l.from)

abbrev pub decreases-open_box : goal.decreases-open_box
decreases-open_box l = 2 * (l.found.child.to - l.found.child.from) + 1

abbrev pub invariant-list_run-loop-at : goal.invariant-list_run-loop-at
invariant-list_run-loop-at l =
    (l.from ≤ l.at) × (length l.out ≡ length l.initial.out)
    × Left (list_run l.levels l.s l.from) l.written l.initial.out (list_run l.levels l.s l.at) l.so_far l.out

abbrev pub decreases-list_run-loop-at : goal.decreases-list_run-loop-at
decreases-list_run-loop-at l = length l.s - l.at
