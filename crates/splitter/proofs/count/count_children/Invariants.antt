-- The boxes counted so far and those from here on are all that there are. Each takes a byte at least, so the count fits.
use Rattle.std.proofs.Common.{◌≡◌, ◌+◌, ◌-◌, ◌≤◌, length}
use Rattle.splitter.specs.Children.{whole_from, whole_children}
use Rattle.splitter.proofs.count.count_children.Given as goal

abbrev pub invariant-loop-child : goal.invariant-loop-child
invariant-loop-child l = (l.count ≤ l.at) × (l.count + whole_from l.s l.at ≡ whole_children l.s)

abbrev pub decreases-loop-child : goal.decreases-loop-child
decreases-loop-child l = length l.s - l.at
