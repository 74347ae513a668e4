-- An entry that is wanted takes the place of the last one, another leaves it; the last one decides in the end.
use mathlib.Core.Path.{◌≡◌, refl}
use Rattle.std.specs.Prelude.{Option, Some, None, ok_or}
use Rattle.std.proofs.Math.Nat.{sub-zero}
use Rattle.rules.specs.Doc.Outcomes.{fine, given, ◌>>=◌}
use Rattle.rules.specs.Laws.Entries.{chosen_all, entries_end}
use Rattle.boxes.specs.declared.refusal.Refusal.TheVariants.{NoMatchingEntry}
use Rattle.locations.specs.Told.{sizes_in, last_in, chosen_of}
use Rattle.locations.specs.declared.sizes.Sizes.{Sizes}
use Rattle.locations.specs.declared.entry.Entry.{Entry}
use Rattle.locations.specs.Reads.{last_taken, last_left}
use Rattle.locations.proofs.parse_entries.Goals as goal
use Rattle.locations.proofs.parse_entries.Goals.{then-entry-item_id, else-entry-item_id}

pub loop-init : goal.loop-init
loop-init c = rw sub-zero (chosen_all _ _ _)

pub loop-preserved : goal.loop-preserved
loop-preserved c =
    let inv = c.loop.invariant in
    let more = c.loop-test.true in
    let read = c.in_ok-entry.ensures in
    let past = c.in_ok-at.ensures in
    elim c.if-entry-item_id.branch [
      | then-entry-item_id w ↦ rw w.last-is (last_taken _ _ _ _ _ _ _ inv more read past w.if-entry-item_id.true)
      | else-entry-item_id w ↦ rw w.last-is (last_left _ _ _ _ _ _ _ inv more read past w.if-entry-item_id.false)
    ]

-- none is 17
last_chosen : (z : Sizes) (last : Option Entry)
    → chosen_of z (ok_or last NoMatchingEntry) ≡ (given (last_in last) 17 >>= λ e. fine (record { sizes = sizes_in z; entry = e }))
last_chosen z None = refl
last_chosen z (Some e) = refl

pub returns : goal.returns
returns c = rw (c.ok_or.ensures.value, last_chosen c.args.table.sizes c.loop.last) (entries_end _ _ _ _ _ _ _ c.loop.invariant c.loop-test.false)
