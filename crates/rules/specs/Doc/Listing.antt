-- "The listing": one line a box, and a last line.
use Rattle.std.specs.Prelude.{ℕ, zero, suc, ◌+◌, ◌-◌, List, [], ◌∷◌, ◌++◌, length, take, drop, leb, ltb, if◌then◌else◌}
use Prim.Native.String.{String}
use Rattle.std.proofs.Math.Option.{Option, none, some}
use Rattle.rules.specs.Doc.Outcomes.{Outcome, fine, refused, ◌>>=◌}
use Rattle.rules.specs.Doc.Lists.{any}
use Rattle.rules.specs.Doc.Bytes.{number_at, size_of, bytes_in, version}
use Rattle.rules.specs.Doc.Headers.{meta, iinf, Box, is, child_at}
use Rattle.rules.specs.Doc.Iinf.{count_size}
use Rattle.rules.specs.Doc.Text.{ascii, hex, decimal}

-- ---- The lines

-- what a line says of a box: how many boxes it is in, where it starts, its type, the bytes of its header and of its body
pub record Line : Type 0 where
  pub depth : ℕ
  pub at : ℕ
  pub kind : ℕ
  pub header : ℕ
  pub body : ℕ

unfoldable pub line_of : ℕ → Box → Line
line_of depth b = record { depth = depth; at = b.start; kind = b.kind; header = b.body.from - b.start; body = size_of b.body }

-- `finished`: there is no more; `fault at n`: the box that starts at `at` couldn't be read or opened, which is refused with n
pub data Listing : Type 0 where
  finished : Listing
  fault : ℕ → ℕ → Listing
  line : Line → Listing → Listing

infixr 3 ◌then◌
-- The first fault ends the listing.
unfoldable pub ◌then◌ : Listing → Listing → Listing
finished then b = b
(fault at n) then b = fault at n
(line x a) then b = line x (a then b)

-- ---- Which boxes are opened

-- the type that four letters are
abbrev pub letters : String → ℕ
letters name = number_at (ascii name) 0 4

-- Opened at once: their bodies are boxes and nothing else.
unfoldable pub holders : List ℕ
holders =
    letters "moov" ∷ letters "trak" ∷ letters "mdia" ∷ letters "minf" ∷ letters "dinf" ∷ letters "stbl" ∷ letters "iprp" ∷ letters "ipco" ∷ []

-- The children start after n bytes of the body; a body too short for those bytes is 3.
unfoldable pub behind : ℕ → Box → Outcome (Option ℕ)
behind n b = if ltb (size_of b.body) n then refused 3 else fine (some (b.body.from + n))

-- In `iinf` the count stands before them: they start after 6 bytes (version 0) or 8.
unfoldable pub behind_count : List ℕ → Box → Outcome (Option ℕ)
behind_count s b = version (bytes_in s b.body) 0 >>= λ v. behind (4 + count_size v) b

-- Where the children of a box start: at once, in `meta` after 4 bytes, in `iinf` after the count. Every other type is a leaf.
unfoldable pub opening : List ℕ → Box → Outcome (Option ℕ)
opening s b =
    if any (λ k. is k b) holders then behind 0 b
    else if is meta b then behind 4 b
    else if is iinf b then behind_count s b
    else fine none

-- ---- A run of boxes, and one box

-- A box's line is printed once its header and body fit, even if it then can't be opened. It comes before the lines of its children, and these
-- before the next box's. `inner` has what stands in a box, `next` what is listed from a position on.
unfoldable pub listed_at : ℕ → ℕ → Outcome Box → (Box → Listing) → (ℕ → Listing) → Listing
listed_at depth at (refused n) inner next = fault at n
listed_at depth at (fine b) inner next = line (line_of depth b) (inner b then next b.body.to)

-- at most n boxes from a position on, each with what `inner` has of its children. All levels follow the rules inside a box.
unfoldable pub row_of : ℕ → (Box → Listing) → List ℕ → ℕ → ℕ → Listing
row_of depth inner s zero at = finished
row_of depth inner s (suc n) at = if leb (length s) at then finished else listed_at depth at (child_at s at) inner (row_of depth inner s n)

-- the boxes from a position to the end of the bytes; there are no more of them than bytes. `open_box` and `list_run` need each other, and a
-- definition can use only what stands above it: so both go through this one.
unfoldable pub run_of : ℕ → (List ℕ → Box → Listing) → List ℕ → ℕ → Listing
run_of depth inner s at = row_of depth (inner s) s (length s) at

-- the children of the box at a position, by where they start
unfoldable pub children_of : ℕ → Outcome (Option ℕ) → (ℕ → Listing) → Listing
children_of at (refused n) children = fault at n
children_of at (fine none) children = finished
children_of at (fine (some from)) children = children from

-- Boxes at depth 8 aren't opened.
abbrev pub deepest : ℕ
deepest = 8

-- Boxes with so many levels under them that may be opened stand at this depth: with 8 levels at depth 0, with none at depth 8.
abbrev pub depth_over : ℕ → ℕ
depth_over levels = deepest - levels

-- One box is opened if there are levels left. Children fill the body: the bytes around them end where the box does.
unfoldable pub open_box : ℕ → List ℕ → Box → Listing
open_box zero s b = finished
open_box (suc levels) s b = children_of b.start (opening s b) (run_of (depth_over levels) (open_box levels) (take b.body.to s))

-- A run of boxes, with so many levels under them.
unfoldable pub list_run : ℕ → List ℕ → ℕ → Listing
list_run levels s at = run_of (depth_over levels) (open_box levels) s at

-- ---- The text

abbrev pub newline : List ℕ
newline = 10 ∷ []

-- a name and a number
abbrev pub named : String → ℕ → List ℕ
named name n = ascii name ++ decimal n

-- where a box is, and its type
unfoldable pub front_text : ℕ → ℕ → ℕ → List ℕ
front_text depth at kind = named "depth=" depth ++ named " at=" at ++ ascii " type=" ++ hex 8 kind

unfoldable pub line_text : Line → List ℕ
line_text x = front_text x.depth x.at x.kind ++ named " header=" x.header ++ named " body=" x.body ++ newline

unfoldable pub last_text : ℕ → ℕ → List ℕ
last_text at n = named "end=" at ++ named " answer=" n ++ newline

-- The last line has the image's length and 0, or the start of the box that couldn't be read or opened and its number.
unfoldable pub text_of : ℕ → Listing → List ℕ
text_of n finished = last_text n 0
text_of n (fault at k) = last_text at k
text_of n (line x l) = line_text x ++ text_of n l

-- At most 65,536 bytes are listed.
abbrev pub longest : ℕ
longest = 65536

-- The listing of an image. Longer input gives only `end=65536 answer=29`.
unfoldable pub listing : List ℕ → List ℕ
listing image = if ltb longest (length image) then last_text longest 29 else text_of (length image) (list_run deepest image 0)

-- A buffer after the text went to its front: as much of the text as it holds, and behind that what it held before.
unfoldable pub printed : List ℕ → List ℕ → List ℕ
printed text out = take (length out) text ++ drop (length text) out
