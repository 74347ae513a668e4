-- "Box headers": a header, the one decision over its size, and a box at each of the two levels.
use Rattle.std.specs.Prelude.{ℕ, ◌+◌, ◌-◌, ◌^◌, Bool, ◌||◌, List, length, leb, ltb, eqb, if◌then◌else◌}
use Rattle.std.proofs.Math.Option.{Option, none, some}
use Rattle.rules.specs.Doc.Outcomes.{Outcome, fine, refused, ◌>>=◌, require, given}
use Rattle.rules.specs.Doc.Bytes.{number_at, Span, size_of}

-- The types of boxes, and of an Exif item, as the numbers of their four letters.
abbrev pub ftyp : ℕ
ftyp = 0x66747970

abbrev pub meta : ℕ
meta = 0x6d657461

abbrev pub iinf : ℕ
iinf = 0x69696e66

abbrev pub infe : ℕ
infe = 0x696e6665

abbrev pub iloc : ℕ
iloc = 0x696c6f63

abbrev pub idat : ℕ
idat = 0x69646174

abbrev pub Exif : ℕ
Exif = 0x45786966

-- The fixed numbers of a header.
abbrev pub short : ℕ
short = 8

abbrev pub long : ℕ
long = 16

-- A header that is there whole: where it starts, its four-byte size and type, its eight-byte size where one follows, and how many bytes it has itself.
pub record Header : Type 0 where
  pub start : ℕ
  pub size : ℕ
  pub kind : ℕ
  pub large : ℕ
  pub width : ℕ

-- the header at a place among n bytes, if it is there whole, from the numbers that stand where its size, type and eight-byte size would
unfoldable pub header_of : ℕ → ℕ → ℕ → ℕ → ℕ → Option Header
header_of n at size kind large =
    if ltb n (at + short) then none
    else if eqb size 1 then (if ltb n (at + long) then none else some (record { start = at; size = size; kind = kind; large = large; width = long }))
    else some (record { start = at; size = size; kind = kind; large = 0; width = short })

-- A header is a four-byte size and a four-byte type. Size 1: an eight-byte size follows.
unfoldable pub header_at : List ℕ → ℕ → Option Header
header_at s at = header_of (length s) at (number_at s at 4) (number_at s (at + 4) 4) (number_at s (at + short) 8)

-- The body follows the header.
abbrev pub body_from : Header → ℕ
body_from h = h.start + h.width

-- Size 0: the body runs to the end of the n enclosing bytes. Size 1: the eight-byte size minus 16, under 16 refused (4). Sizes 2 to 7: refused
-- (4). Otherwise body is size minus 8.
unfoldable pub body_size : ℕ → Header → Outcome ℕ
body_size n h =
    if eqb h.size 0 then fine (n - body_from h)
    else if eqb h.size 1 then (if ltb h.large long then refused 4 else fine (h.large - long))
    else if ltb h.size short then refused 4
    else fine (h.size - short)

-- A box: where it starts, its type, and where its body is.
pub record Box : Type 0 where
  pub start : ℕ
  pub kind : ℕ
  pub body : Span

-- a box from its four numbers
abbrev pub box_of : ℕ → ℕ → ℕ → ℕ → Box
box_of start kind from to = record { start = start; kind = kind; body = record { from = from; to = to } }

-- the box of a header, with a body of `size` bytes
unfoldable pub box_with : Header → ℕ → Box
box_with h size = box_of h.start h.kind (body_from h) (body_from h + size)

-- whether a type, and a box, is of that kind
abbrev pub is_kind : ℕ → ℕ → Bool
is_kind k kind = eqb kind k

abbrev pub is : ℕ → Box → Bool
is k b = is_kind k b.kind

-- A body that must fit into n bytes, else k.
unfoldable pub whole : ℕ → ℕ → Box → Outcome (Unit {0})
whole k n b = require (leb b.body.to n) k

-- Top level: every box but `ftyp` and `meta` is skipped, even past the image's end; a body of 2^63 or more is 5.
unfoldable pub skips : Box → Outcome (Unit {0})
skips b = require (is ftyp b || is meta b || ltb (size_of b.body) (2 ^ 63)) 5

-- The box that the header at a position announces; a cut header is `cut`.
unfoldable pub announced : ℕ → List ℕ → ℕ → Outcome Box
announced cut s at = do
  h ← given (header_at s at) cut
  size ← body_size (length s) h
  fine (box_with h size)

-- a box that was announced, if it stands the test of its level
abbrev pub standing : (Box → Outcome (Unit {0})) → Outcome Box → Outcome Box
standing test o = do
  b ← o
  _ ← test b
  fine b

-- the same of the box that is announced at a position
unfoldable pub box_at : ℕ → (Box → Outcome (Unit {0})) → List ℕ → ℕ → Outcome Box
box_at cut test s at = standing test (announced cut s at)

-- Inside a box: a header or body that doesn't fit is 3.
unfoldable pub child_at : List ℕ → ℕ → Outcome Box
child_at s at = box_at 3 (whole 3 (length s)) s at

-- Top level: a header cut by the image's end is 2; the body may run past it. (The walk over such boxes is `top` in Ftyp, and 1 its `stopped`.)
unfoldable pub file_box_at : List ℕ → ℕ → Outcome Box
file_box_at s at = box_at 2 skips s at
