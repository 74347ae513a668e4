-- What it is to write bytes into a buffer from a position on, and that texts written one behind the other are one text.
use Rattle.std.specs.Prelude.{◌≡◌, refl, ℕ, ◌+◌, ◌^◌, ◌<◌, List, [], ◌∷◌, ◌++◌, length, take, get_or}
use Rattle.std.proofs.Common.{sym, ◌∙◌, arith, add-one, length-append, take-suc}
use Rattle.std.proofs.lemmas.List.Edits.{sets}
use Rattle.rules.specs.Doc.Listing.{printed}
use Rattle.rules.specs.Laws.Over.{over_append, over_front}

-- `before` and `after` are the buffer, `end` is the place behind the bytes. Where there is no room, `sets` leaves them out; the place counts on.
pub record Wrote (bytes : List ℕ) (at : ℕ) (before : List ℕ) (end : ℕ) (after : List ℕ) : Type 0 where
  pub place : end ≡ at + length bytes
  pub buffer : after ≡ sets before at bytes

pub wrote_none : (at : ℕ) (out : List ℕ) → Wrote [] at out at out
wrote_none at out = record { place = omega arith; buffer = refl }

pub wrote_then : {a b : List ℕ} {at m r : ℕ} {before between after : List ℕ}
    → Wrote a at before m between → Wrote b m between r after → Wrote (a ++ b) at before r after
wrote_then {a} {b} {at} {m} {r} {before} p q =
    record {
      place = rw (length-append a b) (omega (arith, p.place, q.place));
      buffer = q.buffer ∙ rw (p.place, p.buffer) (sym (over_append a b before at));
    }

-- where the place behind two texts can be told, so can that behind the first, and that behind the second from there
pub room_first : (at : ℕ) (a b : List ℕ) → at + length (a ++ b) < 2 ^ 64 → at + length a < 2 ^ 64
room_first at a b h = let e = length-append a b in omega (arith, h)

-- of four texts in a row, that behind the first two
pub room_two : (at : ℕ) (a b c d : List ℕ) → at + length (a ++ b ++ c ++ d) < 2 ^ 64 → at + length (a ++ b) < 2 ^ 64
room_two at a b c d h = room_first at (a ++ b) c (room_first at (a ++ b ++ c) d h)

pub room_then : {at m : ℕ} {a before between : List ℕ} → Wrote a at before m between → (b : List ℕ) → at + length (a ++ b) < 2 ^ 64 → m + length b < 2 ^ 64
room_then {at} {m} {a} p b h = let e = length-append a b in omega (arith, p.place, h)

-- one byte more of a part
pub wrote_more : (s : List ℕ) {i at m r : ℕ} {before between after : List ℕ} → i < length s
    → Wrote (take i s) at before m between → Wrote (get_or s i 0 ∷ []) m between r after → Wrote (take (i + 1) s) at before r after
wrote_more s {i} h p q = rw (add-one i, take-suc s i 0 h) (wrote_then p q)

-- what was written from the front on, in the words of a contract
pub from_front : {text before after : List ℕ} {end : ℕ} → Wrote text 0 before end after → (end ≡ length text) × (after ≡ printed text before)
unfolding printed
from_front {text} {before} w = (omega (arith, w.place), w.buffer ∙ over_front text before)
