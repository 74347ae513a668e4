-- Boxes in a row, as the listing has them: their lines, each followed by what stands in the box, up to the first fault.
use Rattle.std.specs.Prelude.{◌≡◌, refl, ℕ, List, [], ◌∷◌}
use Rattle.std.proofs.Common.{sym, ap, ◌∙◌, arith}
use Rattle.rules.specs.Doc.Headers.{Box, child_at}
use Rattle.rules.specs.Doc.Listing.{line_of, Listing, finished, fault, line, ◌then◌, listed_at, depth_over, open_box, list_run}
use Rattle.rules.specs.Laws.Headers.{child_inside}
use Rattle.rules.specs.Laws.BoxRow.{Row}
use Rattle.rules.specs.Laws.Lies.{All}
use Rattle.rules.specs.Laws.Listing.{ending, then_ending, run_next}

-- the lines of boxes in a row, each with what is in it
unfoldable pub row_listing : ℕ → (Box → Listing) → List Box → Listing
row_listing depth inner [] = finished
row_listing depth inner (b ∷ bs) = line (line_of depth b) (inner b then row_listing depth inner bs)

then_assoc : (a b c : Listing) → ((a then b) then c) ≡ (a then b then c)
unfolding ◌then◌
then_assoc finished b c = refl
then_assoc (fault at n) b c = refl
then_assoc (line x a) b c = ap (line x) (then_assoc a b c)

pub then_finished : (a : Listing) → (a then finished) ≡ a
unfolding ◌then◌
then_finished finished = refl
then_finished (fault at n) = refl
then_finished (line x a) = ap (line x) (then_finished a)

-- whole boxes in a row are listed
pub row_listed : (levels : ℕ) (s : List ℕ) (at : ℕ) (bs : List Box) (to : ℕ) → Row (child_at s) at bs to
    → list_run levels s at ≡ (row_listing (depth_over levels) (open_box levels s) bs then list_run levels s to)
unfolding row_listing ◌then◌ listed_at
row_listed levels s at [] to r = rw r
row_listed levels s at (b ∷ bs) to r =
    let i = child_inside s at r.0 in
    run_next levels s at (omega arith)
    ∙ rw (← r.0, row_listed levels s b.body.to bs to r.1)
    (ap (line (line_of (depth_over levels) b)) (sym (then_assoc (open_box levels s b) (row_listing (depth_over levels) (open_box levels s) bs) (list_run levels s to))))

-- where nothing in them is a fault, there is none
pub rows_ending : (depth : ℕ) (inner : Box → Listing) {P : Box → Type 0} → ((b : Box) → P b → ending (inner b) ≡ finished) → (bs : List Box) → All P bs
    → ending (row_listing depth inner bs) ≡ finished
unfolding row_listing ending ◌then◌
rows_ending depth inner f [] a = refl
rows_ending depth inner f (b ∷ bs) a = then_ending (inner b) (row_listing depth inner bs) ∙ rw (f b a.0, rows_ending depth inner f bs a.1)
