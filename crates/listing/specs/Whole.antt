-- The lines and the last line are the listing of an image.
use Rattle.std.specs.Prelude.{◌≡◌, ℕ, ◌+◌, ◌^◌, ◌≤◌, ◌<◌, List, ◌++◌, length, Result, Ok, Err}
use Rattle.std.proofs.Common.{arith, lt-ltb, le-ltb}
use Rattle.rules.specs.Doc.Listing.{deepest, list_run, last_text, text_of, longest, listing, printed}
use Rattle.rules.specs.Laws.Listing.{lines_text, ending, text_lines}
use Rattle.rules.specs.Laws.ListingLength.{listing_length}
use Rattle.boxes.specs.Told.{number}
use Rattle.text.specs.Wrote.{Wrote, wrote_then, room_first, room_then, from_front}
use Rattle.listing.specs.declared.Fault.{Fault}
use Rattle.listing.specs.Told.{told, text_end}
use Rattle.listing.specs.Lines.{Lines}

-- what a caller learns of what was written from the front on
abbrev Front : List ℕ → ℕ → List ℕ → List ℕ → Type 0
Front image end before after = (end ≡ length (listing image)) × (after ≡ printed (listing image) before)

-- the place behind a listing can be told
room_listing : (image : List ℕ) → 0 + length (listing image) < 2 ^ 64
room_listing image = omega (arith, listing_length image)

module _ (image : List ℕ) (h : longest < length image) where
  pub too_long : listing image ≡ last_text longest 29
  unfolding listing
  too_long = rw (lt-ltb longest (length image) h)

  pub room_long : 0 + length (last_text longest 29) < 2 ^ 64
  room_long = rw too_long at (room_listing image)

  pub whole_long : {before after : List ℕ} {end : ℕ} → Wrote (last_text longest 29) 0 before end after → Front image end before after
  whole_long w = rw too_long (from_front w)

module _ (image : List ℕ) (h : length image ≤ longest) where
  two_parts : listing image ≡ lines_text (list_run deepest image 0) ++ text_of (length image) (ending (list_run deepest image 0))
  unfolding listing
  two_parts = rw (le-ltb longest (length image) h) (text_lines (length image) (list_run deepest image 0))

  room_parts : 0 + length (lines_text (list_run deepest image 0) ++ text_of (length image) (ending (list_run deepest image 0))) < 2 ^ 64
  room_parts = rw two_parts at (room_listing image)

  pub room_lines : 0 + length (lines_text (list_run deepest image 0)) < 2 ^ 64
  room_lines = room_first 0 (lines_text (list_run deepest image 0)) (text_of (length image) (ending (list_run deepest image 0))) room_parts

  -- once the lines are written, the last line is that of how they ended
  module _ {before between : List ℕ} {r : Result ℕ Fault} (lines : Lines (list_run deepest image 0) 0 before r between) where
    room_last : text_end r + length (text_of (length image) (told r)) < 2 ^ 64
    room_last = rw lines.ends (room_then lines.text (text_of (length image) (ending (list_run deepest image 0))) room_parts)

    whole : {end : ℕ} {after : List ℕ} → Wrote (text_of (length image) (told r)) (text_end r) between end after → Front image end before after
    whole w = from_front (rw two_parts (wrote_then lines.text (rw lines.ends at w)))

    pub room_finished : {k : ℕ} → r ≡ Ok k → k + length (last_text (length image) 0) < 2 ^ 64
    unfolding text_of
    room_finished e = rw e at room_last

    pub room_fault : {f : Fault} → r ≡ Err f → f.written + length (last_text f.at (number f.why)) < 2 ^ 64
    unfolding text_of
    room_fault e = rw e at room_last

    pub whole_finished : {k end : ℕ} {after : List ℕ} → r ≡ Ok k → Wrote (last_text (length image) 0) k between end after → Front image end before after
    unfolding text_of
    whole_finished e w = whole (rw e w)

    pub whole_fault : {f : Fault} {end : ℕ} {after : List ℕ} → r ≡ Err f → Wrote (last_text f.at (number f.why)) f.written between end after
        → Front image end before after
    unfolding text_of
    whole_fault e w = whole (rw e w)
