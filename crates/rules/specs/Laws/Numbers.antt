-- How large a number of n bytes can be, when a field is read and when it is refused, the bytes of a span that fits, and how many positions there are.
use Rattle.std.specs.Prelude.{◌≡◌, refl, List, ℕ, zero, suc, ◌+◌, ◌-◌, ◌^◌, ◌≤◌, ◌<◌, length, take, drop}
use Rattle.std.proofs.Common.{sym, ap, ◌∙◌, add-zero, arith, length-take, length-drop, length-take-le, take_all, le-leb, ne_eqb}
use Rattle.std.proofs.lemmas.Bool.{lt-leb}
use Rattle.rules.specs.Doc.Outcomes.{fine, refused}
use Rattle.rules.specs.Doc.Endian.{big, number_in}
use Rattle.rules.specs.Doc.Bytes.{number_at, part, positions, Span, size_of, bytes_in, field, sized}
use Rattle.rules.specs.Laws.Endian.{Bytes, number_big, number_in_below, number_in_part}

-- n bytes make a number below 256 to the n
pub number_below : (s : List ℕ) (at n : ℕ) → Bytes s → number_at s at n < 256 ^ n
number_below s at n b = rw (← number_big s at n) (number_in_below big s at n b)

-- the number at the front of a part is that of the whole, where the part begins
pub number_part : (s : List ℕ) (from size n : ℕ) → n ≤ size → number_at (part s from size) 0 n ≡ number_at s from n
number_part s from size n h =
    rw (← number_big (part s from size) 0 n, ← number_big s from n)
    (number_in_part big s from size 0 n (omega arith) ∙ ap (λ (at : ℕ). number_in big s at n) (add-zero from))

-- a field that fits, and one that doesn't
pub field_in : (s : List ℕ) (at n : ℕ) {v : ℕ} → at + n ≤ length s → v ≡ number_at s at n → fine v ≡ field s at n
unfolding field
field_in s at n h e = rw (le-leb (at + n) (length s) h, e)

pub field_out : (s : List ℕ) (at n : ℕ) → length s < at + n → refused 3 ≡ field s at n
unfolding field
field_out s at n h = rw (lt-leb (at + n) (length s) h)

-- a size that is none of 0, 4 and 8
pub sized_out : (s : List ℕ) (at w n : ℕ) → (w ≡ 0 → ⊥) → (w ≡ 4 → ⊥) → (w ≡ 8 → ⊥) → refused n ≡ sized s at w n
unfolding sized
sized_out s at w n a b c = rw (ne_eqb w 0 a, ne_eqb w 4 b, ne_eqb w 8 c)

-- a span that fits has its bytes
pub part_length : (s : List ℕ) (p : Span) → p.to ≤ length s → length (part s p.from (size_of p)) ≡ size_of p
part_length s p h = simp (length-take, length-drop) (omega arith)

pub bytes_in_is : (s : List ℕ) (p : Span) → p.to ≤ length s → bytes_in s p ≡ part s p.from (size_of p)
unfolding bytes_in
bytes_in_is s p h = rw (le-leb p.to (length s) h)

-- n positions are that many
pub positions_length : (at n : ℕ) → length (positions at n) ≡ n
unfolding positions
positions_length at zero = refl
positions_length at (suc n) = ap suc (positions_length (suc at) n)

-- n bytes are lent from the front where there are as many
pub first_part : (n : ℕ) (s : List ℕ) → n ≤ length s → n ≡ length (take n s)
first_part n s h = sym (length-take-le n s h)

-- from n bytes on, to the end, are the rest
pub last_part : (n : ℕ) (s : List ℕ) → take (length s - n) (drop n s) ≡ drop n s
last_part n s = take_all (length s - n) (drop n s) (omega (arith, length-drop n s))
