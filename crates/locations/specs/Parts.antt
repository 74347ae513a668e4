-- What the numbers of a location stand for.
use Rattle.std.specs.Prelude.{◌≡◌, ℕ}
use Rattle.rules.specs.Doc.Iloc as doc
use Rattle.locations.specs.declared.sizes.Sizes.{Sizes}
use Rattle.locations.specs.declared.entry.Entry.{Entry}

abbrev pub sizes_in : Sizes → doc.Sizes
sizes_in z = record { index = z.index; offset = z.offset; length = z.length }

abbrev pub entry_in : Entry → doc.Entry
entry_in e = record {
  id = e.item_id;
  method = e.construction_method;
  base = e.base_offset;
  count = e.extent_count;
  from = e.extents_at;
}

-- an entry, with the sizes by which its extents are read again
abbrev pub chosen_with : Sizes → Entry → doc.Chosen
chosen_with z e = record { sizes = sizes_in z; entry = entry_in e }

-- A width of 0, 4 or 8 bytes (`Is048` of rules), said so that it follows from an entry that was chosen, though which one is not known.
abbrev pub Width : ℕ → Type 0
Width w = (w ≡ 0 → ⊥) → (w ≡ 4 → ⊥) → w ≡ 8
