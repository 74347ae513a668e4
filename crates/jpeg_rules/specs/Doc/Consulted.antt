-- Bytes consulted: the positions of an image on which the answer may depend.
use Rattle.std.specs.Prelude.{ℕ, suc, ◌-◌, min, List, [], ◌++◌, length, leb, eqb, if◌then◌else◌}
use Rattle.rules.specs.Doc.Outcomes.{once, require}
use Rattle.rules.specs.Doc.Bytes.{positions, size_of}
use Rattle.rules.specs.Doc.Answers.{handed}
use Rattle.rules.specs.Doc.Consulted.{walk_bytes}
use Rattle.jpeg_rules.specs.Doc.Segments.{marker_at, Segment, body, APP1, segments}
use Rattle.jpeg_rules.specs.Doc.Block.{is_jpeg, jpeg_block}

-- Tested for FF D8, as far as they are there.
unfoldable pub start_bytes : List ℕ → List ℕ
start_bytes img = positions 0 (min 2 (length img))

-- Where no segment could be read: tested for fill or marker. That is the FF bytes, and the byte behind them if there is one. Of a length that is cut
-- nothing counts, since no answer depends on it.
unfoldable pub tested_bytes : List ℕ → ℕ → List ℕ
tested_bytes img at = positions at (min (suc (marker_at img at)) (length img) - at)

-- Of a segment walked: the FF bytes, the marker, and the length if one is read;
unfoldable pub head_bytes : Segment → List ℕ
head_bytes x = positions x.start ((body x).from - x.start)

-- and the first six body bytes of an E1 segment, or those present. Of a body that is cut nothing counts: it is refused by its length alone.
unfoldable pub name_bytes : List ℕ → Segment → List ℕ
name_bytes img x = if eqb x.marker APP1 then (if leb (body x).to (length img) then positions (body x).from (min 6 (size_of (body x))) else []) else []

unfoldable pub segment_bytes : List ℕ → Segment → List ℕ
segment_bytes img x = head_bytes x ++ name_bytes img x

-- of the segments walked
unfoldable pub search_bytes : List ℕ → List ℕ
search_bytes img = walk_bytes (segment_bytes img) (tested_bytes img) (segments img)

-- The segments count if the image starts FF D8, and the block where it is handed out. The length of the image and of the output count too.
unfoldable pub jpeg_consulted : List ℕ → ℕ → List ℕ
jpeg_consulted img room =
    start_bytes img
    ++ (once (λ u. search_bytes img) (require (is_jpeg img) 31)
    ++ once (handed room) (jpeg_block img))
