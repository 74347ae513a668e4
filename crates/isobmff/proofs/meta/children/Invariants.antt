-- The children from `at` on decide what all of them leave, given what those before left.
use mathlib.Core.Path.{◌≡◌}
use Prim.Native.Nat.{◌-◌}
use lib.ListN.{length}
use Rattle.isobmff.specs.Told.{state_of}
use Rattle.isobmff.specs.Children.{children_from, children_over}
use Rattle.isobmff.proofs.meta.children.Given as goal

abbrev pub invariant-loop-at : goal.invariant-loop-at
invariant-loop-at l = children_from l.body l.at (state_of (record { item_id = l.item_id; iloc = l.iloc; idat = l.idat })) ≡ children_over l.body

abbrev pub decreases-loop-at : goal.decreases-loop-at
decreases-loop-at l = length l.body - l.at
