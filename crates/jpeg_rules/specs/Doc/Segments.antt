-- After FF D8: segments, each with a marker and, most of them, a length and a body. The first thing wrong, read from the front, gives the number: no
-- FF where a marker must be, 32; a marker or a length that is cut, 2; a length under 2, 33; a body that is cut, 2.
use Rattle.std.specs.Prelude.{ℕ, zero, suc, ◌+◌, ◌-◌, Bool, ◌&&◌, ◌||◌, List, length, leb, ltb, eqb, if◌then◌else◌}
use Rattle.std.proofs.Math.Option.{Option, none, some}
use Rattle.rules.specs.Doc.Outcomes.{Outcome, fine, refused, ◌>>=◌, require}
use Rattle.rules.specs.Doc.Bytes.{byte_at, number_at, Span, size_of}
use Rattle.rules.specs.Doc.Walks.{Then, onward, halt, Step, over, cut, met, Walk, run}

-- ---- Markers

-- Where a marker must be, there is an FF. More of them are fill.
abbrev pub prefix : ℕ
prefix = 0xff

-- DA or D9 ends the search, before any length of theirs is read.
unfoldable pub ends_search : ℕ → Bool
ends_search marker = eqb marker 0xda || eqb marker 0xd9

-- Of all markers, 00 too, only 01 and D0 to D7 lack a length.
unfoldable pub lacks_length : ℕ → Bool
lacks_length marker = eqb marker 0x01 || (leb 0xd0 marker && leb marker 0xd7)

-- the first position from one on, n bytes further at most, where no FF stands
unfoldable pub past_fill : List ℕ → ℕ → ℕ → ℕ
past_fill s zero at = at
past_fill s (suc n) at = if eqb (byte_at s at) prefix then past_fill s n (suc at) else at

-- where the marker byte stands, or would stand: behind the FF bytes, however many they are
unfoldable pub marker_at : List ℕ → ℕ → ℕ
marker_at s at = past_fill s (length s - at) at

-- ---- Segments

-- where its first FF stands (`start`) and its marker byte (`at`); the marker; and its length, if one is read
pub record Segment : Type 0 where
  pub start : ℕ
  pub at : ℕ
  pub marker : ℕ
  pub length : Option ℕ

-- The two-byte length counts itself. Without one there is no body.
unfoldable pub body_at : ℕ → Option ℕ → Span
body_at at none = record { from = at + 1; to = at + 1 }
body_at at (some size) = record { from = at + 3; to = at + 1 + size }

unfoldable pub body : Segment → Span
body x = body_at x.at x.length

-- the length behind a marker byte. One that is cut is 2.
unfoldable pub length_at : List ℕ → ℕ → Outcome ℕ
length_at s at = do
  _ ← require (leb (at + 3) (length s)) 2
  fine (number_at s (at + 1) 2)

-- the length of a segment with that marker: none of DA and D9, and none of those that lack one
unfoldable pub length_read : List ℕ → ℕ → ℕ → Outcome (Option ℕ)
length_read s at marker = if ends_search marker || lacks_length marker then fine none else (length_at s at >>= λ size. fine (some size))

-- No FF where a marker must be is 32. A marker that is cut is 2.
unfoldable pub segment_at : List ℕ → ℕ → Outcome Segment
segment_at s start = do
  _ ← require (eqb (byte_at s start) prefix) 32
  let at = marker_at s start
  _ ← require (ltb at (length s)) 2
  size ← length_read s at (byte_at s at)
  fine (record { start = start; at = at; marker = byte_at s at; length = size })

-- ---- What is said of a segment that was read

-- the name of an Exif segment, `Exif` and two zero bytes, as the number of the six
abbrev pub exif_name : ℕ
exif_name = 0x457869660000

-- E1, by its name in the JPEG standard
abbrev pub APP1 : ℕ
APP1 = 0xe1

-- An E1 segment whose body starts `Exif` and two zero bytes.
unfoldable pub is_exif : List ℕ → Segment → Bool
is_exif s x = eqb x.marker APP1 && (leb 6 (size_of (body x)) && eqb (number_at s (body x).from 6) exif_name)

-- A length under 2 is 33.
unfoldable pub length_test : Option ℕ → Outcome (Unit {0})
length_test none = fine tt
length_test (some size) = require (leb 2 size) 33

-- A body that is cut is 2. The first Exif segment ends the search, and so does DA or D9; else it goes on behind the body.
unfoldable pub said : List ℕ → Segment → Outcome Then
said s x = do
  _ ← length_test x.length
  _ ← require (leb (body x).to (length s)) 2
  fine (if ends_search x.marker || is_exif s x then halt else onward (body x).to)

-- ---- The walk

-- A segment that was read is in the list, also if it is refused then; where none could be read, the walk ends.
unfoldable pub segment_met : List ℕ → Outcome Segment → Step Segment
segment_met s (fine x) = met x (said s x)
segment_met s (refused n) = cut n

-- At the end of the bytes there is no more.
unfoldable pub segment_step : List ℕ → ℕ → Step Segment
segment_step s at = if leb (length s) at then over else segment_met s (segment_at s at)

-- the segments of an image behind FF D8; there are no more of them than bytes
unfoldable pub segments : List ℕ → Walk Segment
segments img = run (segment_step img) (length img) 2
