-- What a splitter has left, after success and after a refusal, as the Rust has: what was read is gone.
use Rattle.std.specs.Prelude.{ℕ, ◌+◌, ◌-◌, ◌||◌, List, length, drop, leb, ltb, eqb, if◌then◌else◌}
use Rattle.rules.specs.Doc.Outcomes.{Outcome, fine, refused}
use Rattle.rules.specs.Doc.Bytes.{number_at}
use Rattle.rules.specs.Doc.Headers.{short, long, Box, child_at}

-- What follows n bytes. A field that doesn't fit is not read, so nothing is gone.
unfoldable pub behind : List ℕ → ℕ → List ℕ
behind s n = if leb n (length s) then drop n s else s

-- A number of 0, 4 or 8 bytes; nothing is read for another size.
unfoldable pub behind_sized : List ℕ → ℕ → List ℕ
behind_sized s w = if eqb w 4 || eqb w 8 then behind s w else s

-- Of a header at a position, what can be read among the bytes that are left there: the size, the type and, where the size is 1, the eight-byte size.
unfoldable pub read_of : ℕ → ℕ → ℕ
read_of left size =
    if ltb left 4 then 0
    else if ltb left short then 4
    else if eqb size 1 then (if ltb left long then short else long)
    else short

unfoldable pub header_read : List ℕ → ℕ → ℕ
header_read s at = read_of (length s - at) (number_at s at 4)

-- Where a box ends. Of one that is refused the header is gone, as far as it could be read.
unfoldable pub end_of : Outcome Box → ℕ → ℕ
end_of (fine b) refused_at = b.body.to
end_of (refused n) refused_at = refused_at

unfoldable pub past_box : List ℕ → ℕ → ℕ
past_box s at = end_of (child_at s at) (at + header_read s at)

unfoldable pub behind_box : List ℕ → ℕ → List ℕ
behind_box s at = behind s (past_box s at)
