-- The block, as the positions of its bytes in the image, and the answer.
use Rattle.std.specs.Prelude.{ℕ, ◌+◌, Bool, ◌&&◌, List, length, leb, eqb, if◌then◌else◌}
use Rattle.rules.specs.Doc.Outcomes.{Outcome, fine, refused, ◌>>=◌, require}
use Rattle.rules.specs.Doc.Bytes.{number_at, positions, Span, size_of}
use Rattle.rules.specs.Doc.Walks.{End, ended, cut_at, refused_at, stopped_at}
use Rattle.rules.specs.Doc.Answers.{Answer, answer_by}
use Rattle.jpeg_rules.specs.Doc.Segments.{Segment, body, is_exif, segments}

-- It starts FF D8; shorter files don't.
unfoldable pub is_jpeg : List ℕ → Bool
is_jpeg img = leb 2 (length img) && eqb (number_at img 0 2) 0xffd8

-- The block is what follows `Exif` and the two zero bytes.
unfoldable pub behind_name : Segment → Span
behind_name x = record { from = (body x).from + 6; to = (body x).to }

-- Where it lies, by the segment that ended the search. If that is DA or D9, none was found: 1.
unfoldable pub block_in : List ℕ → Segment → Outcome Span
block_in img x = if is_exif img x then fine (behind_name x) else refused 1

-- By how the search ended. Where the bytes end, a marker is cut: 2.
unfoldable pub found : List ℕ → End Segment → Outcome Span
found img ended = refused 2
found img (cut_at n at) = refused n
found img (refused_at n x) = refused n
found img (stopped_at x) = block_in img x

-- where the block of an image lies, or why there is none
abbrev pub found_in : List ℕ → Outcome Span
found_in img = found img (segments img).end

-- Not starting FF D8 is 31.
unfoldable pub jpeg_block : List ℕ → Outcome (List ℕ)
jpeg_block img = do
  _ ← require (is_jpeg img) 31
  p ← found_in img
  fine (positions p.from (size_of p))

-- the answer for an image and an output buffer: 28 comes last, as for HEIF
abbrev pub jpeg_answer : List ℕ → List ℕ → Answer
jpeg_answer img out = answer_by (jpeg_block img) img out
