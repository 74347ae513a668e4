-- What it is to write the lines of a listing, and how far a run has come with it.
use Rattle.std.specs.Prelude.{◌≡◌, ℕ, ◌+◌, ◌^◌, ◌<◌, length, Result, Ok, Err}
use Rattle.std.proofs.Math.Path.{refl, sym}
use Rattle.std.proofs.Common.{◌∙◌, arith}
use mathlib.Core.List.{List, [], ◌++◌, append_assoc, append-nil}
use Rattle.rules.specs.Doc.Listing.{Line, Listing, finished, fault, line, ◌then◌, line_text}
use Rattle.rules.specs.Laws.Listing.{lines_text, ending, then_ending, then_lines, fault_lines, then_longer}
use Rattle.boxes.specs.Told.{number}
use Rattle.text.specs.Wrote.{Wrote, wrote_none, wrote_then, room_first, room_then}
use Rattle.boxes.specs.declared.refusal.Refusal.{Refusal}
use Rattle.listing.specs.declared.Fault.{Fault}
use Rattle.listing.specs.Told.{told, text_end}

-- the lines of `l` are written, and the answer says where they end and how the listing does
pub record Lines (l : Listing) (at : ℕ) (before : List ℕ) (r : Result ℕ Fault) (after : List ℕ) : Type 0 where
  pub text : Wrote (lines_text l) at before (text_end r) after
  pub ends : told r ≡ ending l

-- of the lines of `l₀` so many are written that those of `l` are left
pub record Left (l₀ : Listing) (at₀ : ℕ) (before : List ℕ) (l : Listing) (at : ℕ) (between : List ℕ) : Type 0 where
  pub done : List ℕ
  pub wrote : Wrote done at₀ before at between
  pub lines : lines_text l₀ ≡ done ++ lines_text l
  pub ends : ending l ≡ ending l₀

pub left_all : (l : Listing) (at : ℕ) (out : List ℕ) → Left l at out l at out
left_all l at out = record { done = []; wrote = wrote_none at out; lines = refl; ends = refl }

module _ {l₀ l : Listing} {at₀ at : ℕ} {before between : List ℕ} (left : Left l₀ at₀ before l at between) where
  -- nothing is left but how the listing ends
  none_left : {r : Result ℕ Fault} → text_end r ≡ at → told r ≡ ending l → [] ≡ lines_text l → Lines l₀ at₀ before r between
  none_left e f g =
      record { text = rw (e, left.lines, ← g, append-nil left.done) left.wrote; ends = f ∙ left.ends }

  pub left_finished : l ≡ finished → Lines l₀ at₀ before (Ok at) between
  unfolding lines_text ending
  left_finished e = none_left refl (rw e) (rw e)

  pub left_fault : {f : Fault} → f.written ≡ at → l ≡ fault f.at (number f.why) → Lines l₀ at₀ before (Err f) between
  unfolding lines_text ending
  left_fault w e = none_left w (rw e) (rw e)

  -- a line is left, and what stands in its box, and the rest of the run
  module _ {x : Line} (a b : Listing) (turn : l ≡ line x (a then b)) (room : at₀ + length (lines_text l₀) < 2 ^ 64) where
    room_left : at + length (line_text x ++ lines_text (a then b)) < 2 ^ 64
    unfolding lines_text
    room_left = room_then left.wrote (line_text x ++ lines_text (a then b)) (rw (left.lines, turn) at room)

    pub room_line : at + length (line_text x) < 2 ^ 64
    room_line = room_first at (line_text x) (lines_text (a then b)) room_left

    module _ {m : ℕ} {out₁ : List ℕ} (put : Wrote (line_text x) at between m out₁) where
      pub room_box : m + length (lines_text a) < 2 ^ 64
      room_box = omega (arith, room_then put (lines_text (a then b)) room_left, then_longer a b)

      module _ {r : Result ℕ Fault} {out₂ : List ℕ} (inner : Lines a m out₁ r out₂) where
        -- what is written after the box
        wrote_box : Wrote (left.done ++ line_text x ++ lines_text a) at₀ before (text_end r) out₂
        wrote_box = wrote_then (wrote_then left.wrote put) inner.text

        lines_box : (rest : List ℕ) → lines_text (a then b) ≡ lines_text a ++ rest → lines_text l₀ ≡ left.done ++ line_text x ++ lines_text a ++ rest
        unfolding lines_text
        lines_box rest e = left.lines ∙ rw (turn, e, append_assoc, append_assoc)

        -- how the box and the rest of the run end is how all ends
        ends_box : (ending a then ending b) ≡ ending l₀
        unfolding ending
        ends_box = sym (then_ending a b) ∙ rw turn at left.ends

        pub went_on : {k : ℕ} → r ≡ Ok k → Left l₀ at₀ before b k out₂
        unfolding ◌then◌
        went_on e =
            let f : finished ≡ ending a = rw e at inner.ends in
            record {
              done = left.done ++ line_text x ++ lines_text a;
              wrote = rw e at wrote_box;
              lines = lines_box (lines_text b) (then_lines a b f);
              ends = rw (← f) at ends_box;
            }

        pub went_wrong : {f : Fault} → r ≡ Err f → Lines l₀ at₀ before (Err f) out₂
        unfolding ◌then◌
        went_wrong {f} g =
            let e : fault f.at (number f.why) ≡ ending a = rw g at inner.ends in
            let all = lines_box [] (fault_lines a b e ∙ sym (append-nil (lines_text a))) in
            record {
              text = rw (all, append-nil (left.done ++ line_text x ++ lines_text a)) (rw g at wrote_box);
              ends = rw (← e) at ends_box;
            }

-- nothing is to be written
pub lines_finished : (l : Listing) (at : ℕ) (out : List ℕ) → l ≡ finished → Lines l at out (Ok at) out
lines_finished l at out e = left_finished (left_all l at out) e

pub lines_fault : (l : Listing) (at p : ℕ) (e : Refusal) (out : List ℕ) → l ≡ fault p (number e)
    → Lines l at out (Err (record { written = at; at = p; why = e })) out
lines_fault l at p e out f = left_fault (left_all l at out) refl f
