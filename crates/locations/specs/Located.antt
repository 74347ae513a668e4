-- What is known of a location that was found: its extents can be read again, as many as it says.
use Rattle.std.specs.Prelude.{◌≡◌, List, ◌∷◌, ℕ, ◌+◌, ◌*◌, ◌≤◌, ◌<◌, length, drop, Result, Ok}
use Rattle.std.proofs.Common.{sym, ap, ◌∙◌}
use Rattle.std.proofs.Math.Logic.{∥∥₁_elim}
use Rattle.std.proofs.Props.{props}
use Rattle.rules.specs.Doc.Outcomes.{fine}
use Rattle.rules.specs.Doc.Iloc as doc
use Rattle.rules.specs.Laws.Fields.{must_be_8}
use Rattle.rules.specs.Laws.Extents.{extent_here}
use Rattle.rules.specs.Laws.Entries.{Chose, chose_length, chose_kth}
use Rattle.boxes.specs.declared.refusal.Refusal.{Refusal}
use Rattle.locations.specs.Parts.{Width}
use Rattle.locations.specs.Told.{location_in, extents_of, iloc_of}
use Rattle.locations.specs.declared.location.Location.{Location}

pub found_chose : (body : List ℕ) (wanted : ℕ) {r : Result Location Refusal} {l : Location}
    → iloc_of r ≡ doc.chosen body wanted → r ≡ Ok l → Chose body (location_in l)
found_chose body wanted e f = record { wanted = wanted; is = sym e ∙ ap iloc_of f }

-- what a head that was read, and then its entries, choose
pub read_chose : (body : List ℕ) (wanted : ℕ) {t : doc.Table} {c : doc.Chosen}
    → fine t ≡ doc.table_of body → fine c ≡ doc.chosen_in t body wanted → ∥ Chose body c ∥₁
unfolding doc.chosen
read_chose body wanted e f = ∣ record { wanted = wanted; is = rw (← e, ← f) } ∣₁

module _ (l : Location) where
  abbrev z : doc.Sizes
  z = (location_in l).sizes

  abbrev at : ℕ → ℕ
  at k = l.entry.extents_at + k * doc.extent_width z

  pub extents_count : length (extents_of l) ≡ l.entry.extent_count
  extents_count = ∥∥₁_elim l.chosen (Prim.hlevel props) (λ h. chose_length l.body.now (location_in l) h)

  -- extent k is there whole, with widths that need no test in the code
  pub record Whole (k : ℕ) : Type 0 where
    pub widths : Width z.offset × Width z.length
    pub inside : at k + doc.extent_width z ≤ length l.body.now
    pub here : drop k (extents_of l) ≡ extent_here z l.body.now (at k) ∷ drop (k + 1) (extents_of l)

  pub whole : (k : ℕ) → k < l.entry.extent_count → Whole k
  whole k h = ∥∥₁_elim {P = Whole k} l.chosen (Prim.hlevel props) (λ c.
      let i = chose_kth l.body.now (location_in l) c k h in
      record { widths = (must_be_8 i.sizes.offset, must_be_8 i.sizes.length); inside = i.inside; here = i.here })
