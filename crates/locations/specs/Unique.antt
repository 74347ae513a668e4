-- No two answers meet a contract of this crate.
use Rattle.std.specs.Prelude.{◌≡◌, refl, List, ◌∷◌, ℕ, ◌+◌, ◌<◌, drop, Result, Ok, Err, IfOk}
use Rattle.std.proofs.Common.{sym, ap, subst, ◌∙◌}
use Rattle.std.proofs.Math.Logic.{∥∥₁_prop}
use Rattle.std.proofs.Props.{props}
use denote.Bor.{Bor}
use Rattle.rules.specs.Doc.Outcomes.{Outcome, fine, refused}
use Rattle.rules.specs.Doc.Iloc as doc
use Rattle.rules.specs.Laws.Back.{one}
use Rattle.rules.specs.Laws.Entries.{Chose}
use Rattle.boxes.specs.Told.{number}
use Rattle.boxes.specs.Unique.{refusal_one}
use Rattle.boxes.specs.declared.refusal.Refusal.{Refusal}
use Rattle.locations.specs.Told.{sizes_in, extent_in, entry_in, chosen_with, location_in, extents_of, iloc_of}
use Rattle.locations.specs.declared.entry.Entry.{Entry}
use Rattle.locations.specs.declared.sizes.Sizes.{Sizes}
use Rattle.locations.specs.declared.extent.Extent.{Extent}
use Rattle.locations.specs.declared.location.Location.{Location}

-- that the sizes are small is no more than a fact of them
same_sizes : (y z : Sizes) → sizes_in y ≡ sizes_in z → y ≡ z
same_sizes y z e =
    let Small : doc.Sizes → Type 0 = λ t. (t.index < 16) × (t.offset < 16) × (t.length < 16) in
    let small : (t : doc.Sizes) → IsProp (Small t) = λ t. Prim.hlevel props in
    let P : doc.Sizes → Type 0 = λ t. (h : Small t) → y ≡ record { index = t.index; offset = t.offset; length = t.length; small = h } in
    let here : P (sizes_in y) = λ h. ap (λ j. record { index = y.index; offset = y.offset; length = y.length; small = j }) (small (sizes_in y) y.small h) in
    subst P e here z.small

as_entry : doc.Entry → Entry
as_entry e = record {
  item_id = e.id;
  construction_method = e.method;
  base_offset = e.base;
  extent_count = e.count;
  extents_at = e.from;
}

entry_back : (e : Entry) → as_entry (entry_in e) ≡ e
unfolding as_entry
entry_back e = refl

-- nor is that it was chosen more than a fact of the body and the numbers
same_location : (l m : Location) → l.body ≡ m.body → location_in l ≡ location_in m → l ≡ m
same_location l m b c =
    let P : Bor (List ℕ) × Sizes × Entry → Type 0 = λ t.
    (h : ∥ Chose t.0.now (chosen_with t.1 t.2) ∥₁) → l ≡ record { body = t.0; sizes = t.1; entry = t.2; chosen = h } in
    let here : P (l.body, l.sizes, l.entry) = λ h.
    ap (λ j. record { body = l.body; sizes = l.sizes; entry = l.entry; chosen = j }) (∥∥₁_prop l.chosen h) in
    let sizes : l.sizes ≡ m.sizes = same_sizes l.sizes m.sizes (ap (λ (c : doc.Chosen). c.sizes) c) in
    let entry : l.entry ≡ m.entry = one entry_in as_entry entry_back (ap (λ (c : doc.Chosen). c.entry) c) refl in
    let all : (l.body, l.sizes, l.entry) ≡ (m.body, m.sizes, m.entry) = cc in
    subst P all here m.chosen

-- what `parse_iloc` promises of its answer
abbrev pub Parses : Bor (List ℕ) → ℕ → Result Location Refusal → Type 0
Parses body wanted r = (iloc_of r ≡ doc.chosen body.now wanted) × IfOk r (λ l. l.body ≡ body)

-- of `parse_iloc`
pub iloc_one : (body : Bor (List ℕ)) (wanted : ℕ) {x y : Result Location Refusal}
    → Parses body wanted x → Parses body wanted y → x ≡ y
iloc_one body wanted {x = Ok l} {y = Ok m} e f =
    let told : fine (location_in l) ≡ fine (location_in m) = e.0 ∙ sym f.0 in
    ap Ok (same_location l m (e.1 ∙ sym f.1) cc)
iloc_one body wanted {x = Ok l} {y = Err n} e f =
    let told : fine (location_in l) ≡ refused (number n) = e.0 ∙ sym f.0 in
    cc
iloc_one body wanted {x = Err n} {y = Ok m} e f =
    let told : refused (number n) ≡ fine (location_in m) = e.0 ∙ sym f.0 in
    cc
iloc_one body wanted {x = Err n} {y = Err k} e f =
    let told : ◌≡◌ {A = Outcome doc.Chosen} (refused (number n)) (refused (number k)) = e.0 ∙ sym f.0 in
    let same : number n ≡ number k = cc in
    ap Err (refusal_one same)

as_extent : doc.Extent → Extent
as_extent x = record { offset = x.offset; length = x.length }

extent_back : (x : Extent) → as_extent (extent_in x) ≡ x
unfolding as_extent
extent_back x = refl

-- of `read_extent`
pub extent_one : (l : Location) (k : ℕ) {x y : Extent}
    → drop k (extents_of l) ≡ extent_in x ∷ drop (k + 1) (extents_of l)
    → drop k (extents_of l) ≡ extent_in y ∷ drop (k + 1) (extents_of l) → x ≡ y
extent_one l k {x} {y} e f =
    let same : extent_in x ≡ extent_in y = cc in
    one extent_in as_extent extent_back same refl
