-- The loop: the boxes still to come, after what those before them left, leave what all of them leave.
use mathlib.Core.Path.{◌≡◌}
use Prim.Native.Nat.{◌-◌}
use Rattle.items.specs.Told.{id_of}
use Rattle.items.specs.Wanted.{entries_over}
use Rattle.items.proofs.entries.Given as goal

abbrev pub invariant-loop : goal.invariant-loop
invariant-loop l = entries_over l.body (l.count - l.counter) l.at (id_of l.item) ≡ entries_over l.body l.count l.first (id_of l.initial.item)
