-- Every step before the room refuses with a number from 1 to 26. Steps 7 to 10 are gone through over bytes; what holds there holds over positions.
use Rattle.std.proofs.Common.{sym, subst, leb→le}
use Rattle.std.specs.Prelude.{ℕ, ◌+◌, ◌-◌, ◌/◌, ◌%◌, ◌^◌, ◌≤◌, Bool, ◌&&◌, ◌||◌, List, [], ◌∷◌, length, T, leb, ltb}
use Rattle.std.proofs.Math.Option.{Option, none, some}
use Rattle.std.proofs.Math.Dec.{eqb}
use Rattle.rules.specs.Doc.Outcomes.{Outcome, fine, refused, ◌>>=◌}
use Rattle.rules.specs.Doc.Lists.{any, only, last_of}
use Rattle.rules.specs.Doc.Bytes.{Span, size_of, bytes_in, field, sized, version}
use Rattle.rules.specs.Doc.Walks.{End, ended, cut_at, refused_at, stopped_at}
use Rattle.rules.specs.Doc.Headers.{ftyp, meta, iinf, infe, iloc, Header, header_at, body_size, Box, box_with, is_kind, is, whole, skips, announced, box_at, child_at}
use Rattle.rules.specs.Doc.Levels.{Level, tested, said, box_step, level_step, boxes, counted_boxes, inside}
use Rattle.rules.specs.Doc.Ftyp.{known, brands_from, brand_test, top_fits, top_level, top, stopped}
use Rattle.rules.specs.Doc.Meta.{opened_in, opened, meta_test}
use Rattle.rules.specs.Doc.Children.{meta_level, children, last_body, wanted_item, kept_in, kept}
use Rattle.rules.specs.Doc.Iinf.{item_id_size, item, item_test, count_size, info_count, info_level, infos, info_test}
use Rattle.rules.specs.Doc.Iloc.{Sizes, Table, id_size, table_of, in_file, Entry, entry_at, Extent, extent_at, extent_met, extents, is_wanted, entry_end, extents_test, entry_next, entry_met, entries, chosen_in, chosen}
use Rattle.rules.specs.Doc.Join.{reach, in_image, in_idat, lies, by_method}
use Rattle.rules.specs.Doc.Block.{bytes_at, block_after, block}
use Rattle.rules.specs.Laws.Rows.{both, by_test}
use Rattle.rules.specs.Laws.Numbered.{Within, went, with_number, row, require_numbered, given_numbered, either, within_larger, WithinStep, at_end, at_cut, at_thing, WithinEnd, in_cut, in_thing, run_numbered, outcome_numbered}
use Rattle.rules.specs.Laws.Room.{NeitherNumber, Early}
use Rattle.rules.specs.Laws.Gather.{on_fine}
use Rattle.rules.specs.Laws.Lent.{block_lent}
use Rattle.rules.specs.OverBytes.{meta_block, kept_block, added, total_from, block_of, block_from, chosen_block, item_block}

abbrev pub InTable : ℕ → Type 0
InTable n = T (leb 1 n && leb n 26)

abbrev pub Numbered : {A : Type 0} → Outcome A → Type 0
Numbered = Within InTable

-- ---- Fields, and boxes inside a box, of any table that has their numbers

module _ {Table : ℕ → Type 0} (three : Table 3) where
  field_numbered : (s : List ℕ) (at n : ℕ) → Within Table (field s at n)
  unfolding field
  field_numbered s at n = either (leb (at + n) (length s)) _ _ went (with_number three)

  sized_numbered : (s : List ℕ) (at w n : ℕ) → Table n → Within Table (sized s at w n)
  unfolding sized
  sized_numbered s at w n p = row _ _ (require_numbered (eqb w 0 || eqb w 4 || eqb w 8) n p) (λ u. field_numbered s at w)

  pub version_numbered : (s : List ℕ) (at : ℕ) → Within Table (version s at)
  unfolding version
  version_numbered s at = row _ _ (field_numbered s at 4) (λ v. went)

module _ {Table : ℕ → Type 0} (four : Table 4) where
  size_numbered : (n : ℕ) (h : Header) → Within Table (body_size n h)
  unfolding body_size
  size_numbered n h =
      either (eqb h.size 0) _ _ went
      (either (eqb h.size 1) _ _ (either (ltb h.large 16) _ _ (with_number four) went) (either (ltb h.size 8) _ _ (with_number four) went))

whole_numbered : {Table : ℕ → Type 0} (k n : ℕ) (b : Box) → Table k → Within Table (whole k n b)
unfolding whole
whole_numbered k n b p = require_numbered (leb b.body.to n) k p

pub child_numbered : {Table : ℕ → Type 0} → Table 3 → Table 4 → (s : List ℕ) (at : ℕ) → Within Table (child_at s at)
unfolding child_at box_at announced
child_numbered three four s at =
    row _ _ (row _ _ (given_numbered (header_at s at) 3 three) (λ h. row _ _ (size_numbered four (length s) h) (λ size. went)))
    (λ b. row _ _ (whole_numbered 3 (length s) b three) (λ u. went))

-- ---- Levels

record NumberedLevel (l : Level) : Type 0 where
  cut_number : InTable l.cut_number
  fits : (n : ℕ) (b : Box) → Numbered (l.fits n b)
  test : (body : List ℕ) → Numbered (l.test body)

module _ (l : Level) (p : NumberedLevel l) (s : List ℕ) where
  said_numbered : (b : Box) → Numbered (said l s b)
  unfolding said tested
  said_numbered b = row _ _ (p.fits (length s) b) (λ u. row _ _ (either (l.opens b.kind) _ _ (p.test (bytes_in s b.body)) went) (λ v. went))

  box_numbered : (o : Option Header) → WithinStep InTable (box_step l s o)
  unfolding box_step
  box_numbered none = at_cut p.cut_number
  box_numbered (some h) = at_thing (row _ _ (size_numbered tt (length s) h) (λ size. said_numbered (box_with h size)))

  level_numbered : (at : ℕ) → WithinStep InTable (level_step l s at)
  unfolding level_step
  level_numbered at = by_test (WithinStep InTable) (leb (length s) at) (λ e. at_end) (λ e. box_numbered (header_at s at))

  boxes_numbered : (at : ℕ) → WithinEnd InTable (boxes l s at).end
  unfolding boxes
  boxes_numbered at = run_numbered (level_step l s) level_numbered (length s) at

  counted_numbered : (n at : ℕ) → WithinEnd InTable (counted_boxes l s n at).end
  unfolding counted_boxes
  counted_numbered n at = run_numbered (λ at. box_step l s (header_at s at)) (λ at. box_numbered (header_at s at)) n at

inside_numbered : (o : ℕ → Bool) (t : List ℕ → Outcome (Unit {0})) → ((body : List ℕ) → Numbered (t body)) → NumberedLevel (inside o t)
unfolding inside
inside_numbered o t p = record { cut_number = tt; fits = λ n b. whole_numbered 3 n b tt; test = p }

-- ---- Steps 1 and 2

brand_numbered : (body : List ℕ) → Numbered (brand_test body)
unfolding brand_test
brand_numbered body = row _ _ (require_numbered (leb 8 (length body)) 3 tt) (λ u. require_numbered (any known (brands_from body 8 ((length body - 8) / 4))) 7 tt)

skips_numbered : (b : Box) → Numbered (skips b)
unfolding skips
skips_numbered b = require_numbered (is ftyp b || is meta b || ltb (size_of b.body) (2 ^ 63)) 5 tt

top_numbered : NumberedLevel top_level
unfolding top_level top_fits
top_numbered = record {
  cut_number = tt;
  fits = λ n b. row _ _ (skips_numbered b) (λ u. either (is ftyp b) _ _ (whole_numbered 2 n b tt) went);
  test = brand_numbered;
}

stopped_numbered : (e : End Box) → WithinEnd InTable e → Numbered (stopped e)
unfolding stopped
stopped_numbered ended p = with_number tt
stopped_numbered (cut_at n at) (in_cut p) = with_number p
stopped_numbered (refused_at n x) (in_thing p) = with_number p
stopped_numbered (stopped_at x) p = went

opened_numbered : (img : List ℕ) → Numbered (opened img)
unfolding opened opened_in top
opened_numbered img =
    row _ _ (stopped_numbered (top img).end (boxes_numbered top_level top_numbered img 0))
    (λ m. row _ _ (require_numbered (any (is ftyp) (top img).list) 6 tt) (λ u. row _ _ (whole_numbered 2 (length img) m tt) (λ v. went)))

-- ---- Steps 3 to 6

item_numbered : (body : List ℕ) → Numbered (item body)
unfolding item item_id_size
item_numbered body =
    row _ _ (version_numbered tt body 0) (λ v. row _ _ (either (eqb v 2) _ _ went (either (eqb v 3) _ _ went (with_number tt)))
    (λ w. row _ _ (field_numbered tt body 4 w) (λ i. row _ _ (field_numbered tt body (4 + w) 2) (λ u. row _ _ (field_numbered tt body (6 + w) 4) (λ k. went)))))

info_level_numbered : NumberedLevel info_level
unfolding info_level item_test
info_level_numbered = inside_numbered (is_kind infe) item_test (λ body. row _ _ (item_numbered body) (λ i. went))

info_numbered : (body : List ℕ) → Numbered (info_test body)
unfolding info_test info_count infos
info_numbered body =
    row _ _ (row _ _ (version_numbered tt body 0) (λ v. row _ _ (field_numbered tt body 4 (count_size v)) (λ n. went)))
    (λ c. outcome_numbered (infos body c).end (counted_numbered info_level info_level_numbered body c.count c.from))

meta_level_numbered : NumberedLevel meta_level
unfolding meta_level
meta_level_numbered = inside_numbered (is_kind iinf) info_test info_numbered

meta_numbered : (body : List ℕ) → Numbered (meta_test body)
unfolding meta_test
meta_numbered body = row _ _ (version_numbered tt body 0) (λ v. require_numbered (eqb v 0) 8 tt)

kept_numbered : (body : List ℕ) → Numbered (kept body)
unfolding kept kept_in children
kept_numbered body =
    row _ _ (meta_numbered body)
    (λ u. row _ _ (outcome_numbered (children body).end (boxes_numbered meta_level meta_level_numbered body 4))
    (λ v. row _ _ (given_numbered (wanted_item body (children body).list) 1 tt) (λ i. row _ _ (given_numbered (last_body iloc (children body).list) 16 tt) (λ t. went))))

-- ---- Steps 7 and 8

table_numbered : (body : List ℕ) → Numbered (table_of body)
unfolding table_of
table_numbered body =
    row _ _ (version_numbered tt body 0) (λ v. row _ _ (field_numbered tt body 4 2) (λ h. row _ _ (require_numbered (leb v 2) 10 tt) (λ u. row _ _ (field_numbered tt body 6 (id_size v)) (λ n. went))))

entry_numbered : (t : Table) (body : List ℕ) (at : ℕ) → Numbered (entry_at t body at)
unfolding entry_at
entry_numbered t body at =
    row _ _ (field_numbered tt body _ _) (λ i. row _ _ (field_numbered tt body _ _) (λ m. row _ _ (field_numbered tt body _ 2) (λ r. row _ _ (require_numbered (in_file (m % 16) r) 15 tt)
    (λ u. row _ _ (sized_numbered tt body _ t.base_size 11 tt) (λ b. row _ _ (field_numbered tt body _ 2) (λ n. went))))))

extent_numbered : (z : Sizes) (body : List ℕ) (at : ℕ) → Numbered (extent_at z body at)
unfolding extent_at
extent_numbered z body at =
    row _ _ (sized_numbered tt body at z.index 12 tt) (λ i. row _ _ (sized_numbered tt body _ z.offset 13 tt) (λ o. row _ _ (sized_numbered tt body _ z.length 14 tt) (λ l. went)))

extents_numbered : (z : Sizes) (body : List ℕ) (e : Entry) → WithinEnd InTable (extents z body e).end
unfolding extents extent_met
extents_numbered z body e = run_numbered _ (λ at. go _ (extent_at z body at) (extent_numbered z body at)) e.count e.from
  where
    go : (next : ℕ) (o : Outcome Extent) → Numbered o → WithinStep InTable (extent_met next o)
    go next (fine x) p = at_thing went
    go next (refused n) (with_number p) = at_cut p

next_numbered : (t : Table) (body : List ℕ) (wanted : ℕ) (e : Entry) → Numbered (entry_next t body wanted e)
unfolding entry_next extents_test
next_numbered t body wanted e =
    row _ _ (either (is_wanted wanted e) _ _ (outcome_numbered _ (extents_numbered t.sizes body e)) (require_numbered (leb (entry_end t e) (length body)) 3 tt)) (λ u. went)

entries_numbered : (t : Table) (body : List ℕ) (wanted : ℕ) → WithinEnd InTable (entries t body wanted).end
unfolding entries entry_met
entries_numbered t body wanted = run_numbered _ (λ at. go (entry_at t body at) (entry_numbered t body at)) t.count t.from
  where
    go : (o : Outcome Entry) → Numbered o → WithinStep InTable (entry_met t body wanted o)
    go (fine e) p = at_thing (row _ _ (next_numbered t body wanted e) (λ next. went))
    go (refused n) (with_number p) = at_cut p

chosen_numbered : (body : List ℕ) (wanted : ℕ) → Numbered (chosen body wanted)
unfolding chosen chosen_in
chosen_numbered body wanted =
    row _ _ (table_numbered body)
    (λ t. row _ _ (outcome_numbered _ (entries_numbered t body wanted)) (λ u. row _ _ (given_numbered (last_of (only (is_wanted wanted) (entries t body wanted).list)) 17 tt) (λ e. went)))

-- ---- Steps 9 and 10

method_numbered : {A : Type 0} (x : A) (store : Option A) (method : ℕ) → Numbered (by_method x store method)
unfolding by_method
method_numbered x store method =
    either (eqb method 0) _ _ went (either (eqb method 1) _ _ (given_numbered store 21 tt) (either (eqb method 2) _ _ (with_number tt) (with_number tt)))

lies_numbered : (method n base : ℕ) (x : Extent) → Numbered (lies method n base x)
unfolding lies in_image in_idat
lies_numbered method n base x =
    row _ _ (require_numbered (ltb from (2 ^ 64)) 18 tt) (λ u. either (eqb method 0) _ _
    (row _ _ (require_numbered (leb to n) 2 tt) (λ w. went))
    (row _ _ (require_numbered (ltb (from + x.length) (2 ^ 64)) 19 tt) (λ v. row _ _ (require_numbered (leb from n && leb to n) 20 tt) (λ z. went))))
  where
    from : ℕ
    from = base + x.offset

    to : ℕ
    to = (reach n base x).to

after_offset_numbered : (offset : ℕ) (ps : List ℕ) → Numbered (block_after offset ps)
unfolding block_after
after_offset_numbered offset ps = row _ _ (require_numbered (leb 4 (length ps)) 25 tt) (λ u. row _ _ (require_numbered (leb offset (length ps - 4)) 26 tt) (λ v. went))

added_numbered : (total : ℕ) (o : Outcome Span) → Numbered o → Numbered (added total o)
unfolding added
added_numbered total (fine p) q = either (ltb 65535 (total + size_of p)) _ _ (with_number tt) went
added_numbered total (refused n) (with_number p) = with_number p

total_numbered : (place : Extent → Outcome Span) → ((x : Extent) → Numbered (place x)) → (total : ℕ) (xs : List Extent) → Numbered (total_from place total xs)
unfolding total_from
total_numbered place p total [] = went
total_numbered place p total (x ∷ xs) = row _ _ (added_numbered total (place x) (p x)) (λ t. total_numbered place p t xs)

pub item_block_numbered : (img : List ℕ) (store : Option (List ℕ)) (table : List ℕ) (wanted : ℕ) → Numbered (item_block img store table wanted)
unfolding item_block chosen_block block_from block_of
item_block_numbered img store table wanted =
    row _ _ (chosen_numbered table wanted) (λ c. row _ _ (method_numbered img store c.entry.method)
    (λ s. row _ _ (total_numbered _ (lies_numbered c.entry.method (length s) c.entry.base) 0 _) (λ t. after_offset_numbered _ _)))

-- ---- The whole, over bytes, and so over positions

bytes_numbered : (img : List ℕ) → Numbered (opened img >>= λ m. meta_block img (bytes_in img m.body))
unfolding meta_block kept_block
bytes_numbered img = row _ _ (opened_numbered img) (λ m. row _ _ (kept_numbered _) (λ k. item_block_numbered img _ _ k.wanted))

pub block_numbered : (img : List ℕ) → Numbered (block img)
block_numbered img = go (block img) (subst Numbered (sym (block_lent img)) (bytes_numbered img))
  where
    go : (o : Outcome (List ℕ)) → Numbered (on_fine (bytes_at img) o) → Numbered o
    go (fine ps) p = went
    go (refused n) (with_number p) = with_number p

-- ---- What that shows

-- none is above 26
pub in_table_most : (n : ℕ) → InTable n → n ≤ 26
in_table_most n p = leb→le n 26 (both (leb 1 n) (leb n 26) p).1

-- so neither success nor the room is among them
pub in_table_early : (n : ℕ) → InTable n → NeitherNumber n
in_table_early n p = (λ e. rw e at p, λ e. rw e at p)

pub early : {A : Type 0} (o : Outcome A) → Numbered o → Early o
early o p = within_larger in_table_early o p

pub block_early : (img : List ℕ) → Early (block img)
block_early img = early (block img) (block_numbered img)
