-- Bytes and the numbers they make, all big-endian; fields at a position inside a box.
use Rattle.std.specs.Prelude.{ℕ, zero, suc, ◌+◌, ◌-◌, ◌*◌, ◌/◌, ◌^◌, ◌||◌, List, [], ◌∷◌, length, take, drop, get_or, leb, eqb, if◌then◌else◌}
use Rattle.rules.specs.Doc.Outcomes.{Outcome, fine, refused, ◌>>=◌, require}

-- the byte at a position; 0 past the end, where nobody looks
abbrev pub byte_at : List ℕ → ℕ → ℕ
byte_at s i = get_or s i 0

-- the number in the n bytes from a position, the first byte the highest
unfoldable pub number_at : List ℕ → ℕ → ℕ → ℕ
number_at s at zero = 0
number_at s at (suc n) = number_at s at n * 256 + byte_at s (at + n)

-- n bytes from a position: Rattle's `&s[at..at + n]`
abbrev pub part : List ℕ → ℕ → ℕ → List ℕ
part s at n = take n (drop at s)

-- n positions, from one on
unfoldable pub positions : ℕ → ℕ → List ℕ
positions at zero = []
positions at (suc n) = at ∷ positions (suc at) n

-- from `from` up to, not including, `to`
pub record Span : Type 0 where
  pub from : ℕ
  pub to : ℕ

-- how many bytes that is
abbrev pub size_of : Span → ℕ
size_of p = p.to - p.from

-- The bytes of a span that fits; one that doesn't is not looked at.
unfoldable pub bytes_in : List ℕ → Span → List ℕ
bytes_in s p = if leb p.to (length s) then part s p.from (size_of p) else []

-- Inside a box: a field that doesn't fit is 3.
unfoldable pub field : List ℕ → ℕ → ℕ → Outcome ℕ
field s at n = if leb (at + n) (length s) then fine (number_at s at n) else refused 3

-- A number of 0, 4 or 8 bytes; another size is n.
unfoldable pub sized : List ℕ → ℕ → ℕ → ℕ → Outcome ℕ
sized s at w n = do
  _ ← require (eqb w 0 || eqb w 4 || eqb w 8) n
  field s at w

-- The version is the top byte of four.
unfoldable pub version : List ℕ → ℕ → Outcome ℕ
version s at = field s at 4 >>= λ v. fine (v / 2 ^ 24)
