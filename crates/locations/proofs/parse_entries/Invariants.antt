-- The entries that are left, with the last wanted one so far, decide what all of them do.
use mathlib.Core.Path.{◌≡◌}
use Prim.Native.Nat.{◌-◌}
use Rattle.rules.specs.Doc.Iloc.{chosen_in}
use Rattle.rules.specs.Laws.Entries.{chosen_from}
use Rattle.locations.specs.Told.{table_in, last_in}
use Rattle.locations.proofs.parse_entries.Given as goal

abbrev pub invariant-loop : goal.invariant-loop
invariant-loop l = chosen_from (table_in l.table) l.body l.item_id (last_in l.last) (l.end - l.counter) l.at ≡ chosen_in (table_in l.table) l.body l.item_id
