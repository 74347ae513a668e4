-- What a splitter answers, by the bytes it holds: document 01's rules inside a box, at the front.
use Rattle.std.specs.Prelude.{ℕ, ◌+◌, ◌/◌, ◌%◌, ◌^◌, ◌||◌, List, [], ◌∷◌, length, take, leb, eqb, if◌then◌else◌}
use Rattle.std.proofs.Math.Option.{Option, none, some}
use Rattle.rules.specs.Doc.Outcomes.{Outcome, fine, refused, ◌>>=◌}
use Rattle.rules.specs.Doc.Bytes.{byte_at, field, bytes_in}
use Rattle.rules.specs.Doc.Headers.{child_at}

-- A number of 0, 4 or 8 bytes; `none` for another size.
unfoldable pub as_sized : Outcome ℕ → Outcome (Option ℕ)
as_sized o = o >>= λ v. fine (some v)

unfoldable pub sized_front : List ℕ → ℕ → Outcome (Option ℕ)
sized_front s w = if eqb w 0 || eqb w 4 || eqb w 8 then as_sized (field s 0 w) else fine none

-- The version is the top byte of four, the flags are the other three.
unfoldable pub full_box_at : List ℕ → ℕ → Outcome (ℕ × ℕ)
full_box_at s at = field s at 4 >>= λ v. fine (v / 2 ^ 24, v % 2 ^ 24)

-- Four bytes; where they don't fit, 3.
unfoldable pub array4_at : List ℕ → ℕ → Outcome (List ℕ)
array4_at s at =
    if leb (at + 4) (length s) then fine (byte_at s at ∷ byte_at s (at + 1) ∷ byte_at s (at + 2) ∷ byte_at s (at + 3) ∷ []) else refused 3

-- The next n bytes; where they don't fit, 3.
unfoldable pub slice_front : List ℕ → ℕ → Outcome (List ℕ)
slice_front s n = if leb n (length s) then fine (take n s) else refused 3

-- The type of the box at a position, and its body.
unfoldable pub child_box_at : List ℕ → ℕ → Outcome (ℕ × List ℕ)
child_box_at s at = child_at s at >>= λ b. fine (b.kind, bytes_in s b.body)
