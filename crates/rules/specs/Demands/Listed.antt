-- The listing, before its limit of 65,536 bytes, and extraction agree where both speak. Proved, of an image whose first `meta` extraction opens:
-- the boxes that it walks up to and with that `meta` are whole, and the listing is their lines in their order, each followed by what stands in
-- the box, up to the first fault in one of them (`top_listed`). Where the walk over the children of `meta` ended well too, the same holds of
-- them (`children_listed`).
-- Not proved, since it isn't so: that the listing gets as far as extraction. It ends at the first fault, and it looks where extraction does not:
-- into boxes that extraction skips, and behind the last box that an `iinf` counts. Without such a fault it gets there (`listed_to_children`);
-- `beside` and `nested` are files of 40 bytes that have one. Nothing is said of an image that extraction refuses on the way.
use Rattle.std.specs.Prelude.{◌≡◌, refl, ◌⊎◌, length, T}
use Rattle.std.proofs.Common.{sym, ◌∙◌, arith, inl, inr, le-ltb}
use Rattle.std.proofs.Math.Path.{subst}
use Prim.Native.Nat.{ℕ, suc, ◌+◌, ◌≤◌}
use Rattle.std.proofs.Math.Option.{some}
use mathlib.Core.List.{List, [], ◌++◌, map}
use Rattle.std.proofs.Math.ListN.{take, drop}
use Rattle.std.proofs.Math.Seq.{length-take-le}
use Rattle.rules.specs.Doc.Outcomes.{fine}
use Rattle.rules.specs.Doc.Lists.{any, same}
use Rattle.rules.specs.Doc.Bytes.{number_at, Span, size_of, bytes_in, field, version}
use Rattle.rules.specs.Doc.Walks.{outcome}
use Rattle.rules.specs.Doc.Headers.{meta, Box, box_of, child_at}
use Rattle.rules.specs.Doc.Ftyp.{top_level, top}
use Rattle.rules.specs.Doc.Meta.{opened, meta_test}
use Rattle.rules.specs.Doc.Children.{children}
use Rattle.rules.specs.Doc.Answers.{answer}
use Rattle.rules.specs.Doc.Text.{ascii}
use Rattle.rules.specs.Doc.Listing.{finished, ◌then◌, holders, behind, opening, children_of, depth_over, open_box, list_run, newline, listing}
use Rattle.rules.specs.Laws.Rows.{bind_fine}
use Rattle.rules.specs.Laws.Numbers.{bytes_in_is}
use Rattle.rules.specs.Laws.Fields.{field_stands}
use Rattle.rules.specs.Laws.BoxRow.{Row, row_whole}
use Rattle.rules.specs.Laws.Lies.{All, children_row, top_row, opened_lies, part_size}
use Rattle.rules.specs.Laws.Moved.{moved_box, row_moved, drop_take}
use Rattle.rules.specs.Laws.Listing.{ending, run_done, open_more}
use Rattle.rules.specs.Laws.ListingRow.{row_listing, then_finished, row_listed, rows_ending}
use Rattle.rules.specs.Unfold.{document}
use Rattle.rules.specs.Cases.{line as bytes}

-- ---- The top level

-- The listing begins with the boxes that extraction walks at the top level, up to and with `meta`. None of them is itself a fault.
pub top_listed : (levels : ℕ) (img : List ℕ) (m : Box) → opened img ≡ fine m
    → list_run levels img 0 ≡ (row_listing (depth_over levels) (open_box levels img) (top img).list then list_run levels img m.body.to)
top_listed levels img m e =
    let r = row_whole top_level img 0 (top img).list m.body.to (top_row img m e).0 (opened_lies img m e).inner in
    row_listed levels img 0 (top img).list m.body.to r.1

-- ---- The children of `meta`

meta_four : (body : List ℕ) → meta_test body ≡ fine tt → 4 ≤ length body
unfolding meta_test version
meta_four body e =
    let (v, p, q) = bind_fine (version body 0) _ (sym e) in
    let (w, x, y) = bind_fine (field body 0 4) _ p in
    let i = field_stands body 0 4 x in
    omega arith

meta_opening : (s : List ℕ) (m : Box) → m.kind ≡ meta → 4 ≤ size_of m.body → opening s m ≡ fine (some (m.body.from + 4))
unfolding opening holders any behind number_at
meta_opening s m e h = rw (e, le-ltb (size_of m.body) 4 h)

-- the children that extraction walks, at their positions in the image
abbrev pub children_in : List ℕ → Box → List Box
children_in img m = map (moved_box m.body.from) (children (bytes_in img m.body)).list

module _ (levels : ℕ) (img : List ℕ) (m : Box) (e : opened img ≡ fine m) (t : meta_test (bytes_in img m.body) ≡ fine tt)
    (c : outcome (children (bytes_in img m.body)).end ≡ fine tt) where
  -- What is listed in `meta` is its children, and none of them is itself a fault. There the listing sees the image up to the end of `meta`.
  pub children_listed : open_box (suc levels) img m ≡ row_listing (depth_over levels) (open_box levels (take m.body.to img)) (children_in img m)
  unfolding children_of
  children_listed =
      let p : Span = m.body in
      let body : List ℕ = bytes_in img p in
      let s : List ℕ = take p.to img in
      let h = (opened_lies img m e).inner in
      let n = length-take-le p.to img h in
      let z = part_size img p h in
      let f = meta_four body t in
      let d : body ≡ drop p.from s = bytes_in_is img p h ∙ drop_take p.from p.to img in
      let (to, r, x) = children_row body c in
      let q = subst (λ (b : List ℕ). Row (child_at b) 4 (children body).list to) d r in
      open_more img m levels
      ∙ rw (meta_opening img m (top_row img m e).1 (omega arith))
      (row_listed levels s (p.from + 4) (children_in img m) (p.from + to) (row_moved p.from s (omega arith) 4 (children body).list to q)
      ∙ rw (run_done levels s (p.from + to) (omega arith)) (then_finished _))

  -- If nothing in another box of the top level is a fault, and nothing in a child, then the listing has no fault down to and with `meta`.
  pub listed_to_children : All (λ b. (b ≡ m) ⊎ (ending (open_box (suc levels) img b) ≡ finished)) (top img).list
      → All (λ b. ending (open_box levels (take m.body.to img) b) ≡ finished) (children_in img m)
      → ending (row_listing (depth_over (suc levels)) (open_box (suc levels) img) (top img).list) ≡ finished
  listed_to_children a b = rows_ending (depth_over (suc levels)) (open_box (suc levels) img) go (top img).list a
    where
      go : (x : Box) → (x ≡ m) ⊎ (ending (open_box (suc levels) img x) ≡ finished) → ending (open_box (suc levels) img x) ≡ finished
      go x (inl f) = rw (f, children_listed) (rows_ending (depth_over levels) (open_box levels (take m.body.to img)) (λ y h. h) (children_in img m) b)
      go x (inr f) = f

-- ---- Where they differ

-- Both premises of `listed_to_children` are needed. Here an empty `iinf` stands beside `meta`: extraction skips it, and the listing opens it.
unfoldable pub beside : List ℕ
beside = bytes 20 0x00000014_66747970_6d696631_00000000_6d696631 ++ bytes 8 0x00000008_69696e66 ++ bytes 12 0x0000000c_6d657461_00000000

-- And here the one child of `meta` is an empty `meta`.
unfoldable pub nested : List ℕ
nested = bytes 20 0x00000014_66747970_6d696631_00000000_6d696631 ++ bytes 12 0x00000014_6d657461_00000000 ++ bytes 8 0x00000008_6d657461

-- Extraction opens that `meta`, walks all its children, and then has no wanted id.
abbrev Walked : List ℕ → Box → Type 0
Walked img m =
    (opened img ≡ fine m) × (meta_test (bytes_in img m.body) ≡ fine tt) × (outcome (children (bytes_in img m.body)).end ≡ fine tt)
    × ((answer img []).number ≡ 1)

pub both_walked : Walked beside (box_of 28 meta 36 40) × Walked nested (box_of 20 meta 28 40)
unfolding document beside nested bytes
both_walked = ((refl, refl, refl, refl), (refl, refl, refl, refl))

-- The listing of `beside` doesn't get to `meta`.
pub beside_listed : T (same (listing beside)
    (ascii "depth=0 at=0 type=66747970 header=8 body=12" ++ newline
    ++ ascii "depth=0 at=20 type=69696e66 header=8 body=0" ++ newline
    ++ ascii "end=20 answer=3" ++ newline))
unfolding document same beside bytes
beside_listed = tt

-- That of `nested` ends in its child.
pub nested_listed : T (same (listing nested)
    (ascii "depth=0 at=0 type=66747970 header=8 body=12" ++ newline
    ++ ascii "depth=0 at=20 type=6d657461 header=8 body=12" ++ newline
    ++ ascii "depth=1 at=32 type=6d657461 header=8 body=0" ++ newline
    ++ ascii "end=32 answer=3" ++ newline))
unfolding document same nested bytes
nested_listed = tt
