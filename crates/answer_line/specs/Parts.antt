-- What the proofs cite: the digits of bytes, and what was copied from the front on.
use Rattle.std.specs.Prelude.{◌≡◌, refl, ℕ, suc, ◌+◌, ◌-◌, ◌/◌, ◌%◌, ◌≤◌, ◌<◌, List, [], ◌∷◌, ◌++◌, length, take, drop, get_or, set}
use Rattle.std.proofs.Common.{sym, ap, ◌∙◌, arith, add-one, append_assoc, append-nil, length-take, take-suc}
use native.Mathlib.Numerals.{unary_clauses}
use Rattle.std.proofs.Math.Seq.{length-sets, take-append_seam, take-nil}
use Rattle.rules.specs.Doc.Text.{ascii, digit, hex}
use Rattle.rules.specs.Doc.Listing.{printed}
use Rattle.rules.specs.Laws.Over.{over_front}
use Rattle.output.specs.Copied.{Copied}
use Rattle.answer_line.specs.Line.{hexes, out_text}

-- ---- Bytes

-- one, where there is room for it
pub copied_byte : (x at : ℕ) (out : List ℕ) → at < length out → Copied (x ∷ []) at out (at + 1) (set out at x)
copied_byte x at out h =
    let room : length out - at ≡ suc (length out - suc at) = omega arith in
    record { place = rw (room, take-nil (length out - suc at)) refl; buffer = refl }

-- both digits of one
pub hex_two : (b : ℕ) → hex 2 b ≡ digit (b / 16 % 16) ∷ digit (b % 16) ∷ []
unfolding hex
hex_two b = refl

hexes_append : (a b : List ℕ) → hexes (a ++ b) ≡ hexes a ++ hexes b
unfolding hexes
hexes_append [] b = refl
hexes_append (x ∷ a) b = rw (hexes_append a b) (sym (append_assoc (hex 2 x) (hexes a) (hexes b)))

-- of one byte more
pub hexes_more : (s : List ℕ) (i : ℕ) → i < length s → hexes (take (i + 1) s) ≡ hexes (take i s) ++ hex 2 (get_or s i 0)
unfolding hexes
hexes_more s i h =
    let b = get_or s i 0 in
    rw (add-one i, take-suc s i 0 h, hexes_append (take i s) (b ∷ [])) (ap (λ (l : List ℕ). hexes (take i s) ++ l) (append-nil (hex 2 b)))

pub out_some : (s : List ℕ) → (length s ≡ 0 → ⊥) → out_text s ≡ hexes s
unfolding out_text
out_some [] h = absurd (h refl)
out_some (b ∷ s) h = refl

pub out_none : (s : List ℕ) → length s ≡ 0 → out_text s ≡ ascii "-"
unfolding out_text
out_none [] h = refl
out_none (b ∷ s) h = absurd (omega (arith, h))

-- ---- The line

-- what was copied from the front on, in the words of a contract
pub copied_front : {bytes before after : List ℕ} {end : ℕ} → Copied bytes 0 before end after → (end ≤ length after) × (after ≡ printed bytes before)
unfolding printed
copied_front {bytes} {before} c =
    let kept = length-sets before 0 bytes in
    let place = rw (length-take (length before - 0) bytes) at c.place in
    (rw c.buffer (omega (arith, kept, place)), c.buffer ∙ over_front bytes before)

-- and as the bytes that are handed on
pub copied_written : {bytes before after : List ℕ} {end : ℕ} → Copied bytes 0 before end after → take end after ≡ take (length before) bytes
copied_written {bytes} {before} {after} {end} c =
    let place : end ≡ length (take (length before) bytes) = omega (arith, simp unary_clauses at c.place) in
    rw (place, c.buffer ∙ over_front bytes before) (take-append_seam (take (length before) bytes) (drop (length bytes) before))
