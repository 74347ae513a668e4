-- What the answers say: document 01's number, or the values, of each case.
use Rattle.std.proofs.Math.Option as math
use Rattle.std.specs.Prelude.{List, ℕ, Option, Result}
use Rattle.rules.specs.Doc.Outcomes.{Outcome}
use Rattle.rules.specs.Doc.Iloc as doc
use Rattle.rules.specs.Results.{outcome, perhaps}
use Rattle.boxes.specs.Told.{number}
use Rattle.boxes.specs.declared.refusal.Refusal.{Refusal}
use Rattle.locations.specs.declared.sizes.Sizes.{Sizes}
pub use Rattle.locations.specs.Parts.{sizes_in, entry_in, chosen_with}
use Rattle.locations.specs.declared.extent.Extent.{Extent}
use Rattle.locations.specs.declared.table.Table.{Table}
use Rattle.locations.specs.declared.entry.Entry.{Entry}
use Rattle.locations.specs.declared.location.Location.{Location}

abbrev pub extent_in : Extent → doc.Extent
extent_in x = record { offset = x.offset; length = x.length }

abbrev pub location_in : Location → doc.Chosen
location_in l = chosen_with l.sizes l.entry

-- the extents of an item that was located
abbrev pub extents_of : Location → List doc.Extent
extents_of l = (doc.extents (sizes_in l.sizes) l.body.now (entry_in l.entry)).list

abbrev pub iloc_of : Result Location Refusal → Outcome doc.Chosen
iloc_of = outcome number location_in

-- ---- Answers of private functions

abbrev pub table_in : Table → doc.Table
table_in t = record {
  version = t.version;
  sizes = sizes_in t.sizes;
  base_size = t.base_offset_size;
  count = t.item_count;
  from = t.items_at;
}

abbrev pub head_of : Result Table Refusal → Outcome doc.Table
head_of = outcome number table_in

abbrev pub parsed_of : Result Entry Refusal → Outcome doc.Entry
parsed_of = outcome number entry_in

abbrev pub read_of : Result Extent Refusal → Outcome doc.Extent
read_of = outcome number extent_in

-- where an entry's extents end
abbrev pub past_of : Result ℕ Refusal → Outcome ℕ
past_of = outcome number (λ at. at)

-- the chosen entry of a table with these sizes
abbrev pub chosen_of : Sizes → Result Entry Refusal → Outcome doc.Chosen
chosen_of z = outcome number (chosen_with z)

-- the last wanted entry so far
abbrev pub last_in : Option Entry → math.Option doc.Entry
last_in = perhaps entry_in
