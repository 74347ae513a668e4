-- What the answers say: document 01's number, or the values, of each case; and what the code's values stand for.
use Rattle.std.specs.Prelude.{ℕ, List, length, eqb, if◌then◌else◌, Result, Option}
use Rattle.std.proofs.Common.{Bor}
use Rattle.std.proofs.Math.Option as math
use Rattle.rules.specs.Doc.Outcomes.{Outcome}
use Rattle.rules.specs.Doc.Bytes as doc
use Rattle.rules.specs.Doc.Iloc.{Extent}
use Rattle.rules.specs.Doc.Join.{lies}
use Rattle.rules.specs.OverBytes.{part_of, gathered, block_from}
use Rattle.rules.specs.Results.{outcome, perhaps}
use Rattle.boxes.specs.Told.{number, span_of}
use Rattle.boxes.specs.declared.refusal.Refusal.{Refusal}
use Rattle.boxes.specs.declared.span.Span.{Span}
use Rattle.locations.specs.Told.{location_in, extents_of}
use Rattle.locations.specs.declared.location.Location.{Location}

-- of where an extent lies
abbrev pub place_of : Result Span Refusal → Outcome doc.Span
place_of = outcome number span_of

-- of the total
abbrev pub total_of : Result ℕ Refusal → Outcome ℕ
total_of = outcome number (λ n. n)

-- the bytes of an `idat`, if there is one
abbrev pub store : Option (Bor (List ℕ)) → math.Option (List ℕ)
store = perhaps (λ b. b.now)

-- ---- Of a location whose method is 0 or 1

-- of the image and the `idat` body, the one that the method names
abbrev pub source : ℕ → List ℕ → List ℕ → List ℕ
source method image idat = if eqb method 0 then image else idat

-- the bytes of an extent, by the method and the base; none of a refused one
abbrev pub part_by : ℕ → List ℕ → List ℕ → ℕ → Extent → List ℕ
part_by method image idat base x =
    let s = source method image idat in
    part_of s (lies method (length s) base x)

-- how its extents lie in n bytes
abbrev pub lies_by : Location → ℕ → Extent → Outcome doc.Span
lies_by l n = lies (location_in l).entry.method n (location_in l).entry.base

-- its joined bytes
abbrev pub joined_of : List ℕ → List ℕ → Location → List ℕ
joined_of image idat l =
    let s = source (location_in l).entry.method image idat in
    gathered (lies_by l (length s)) s (extents_of l)

-- its block
abbrev pub block_by : List ℕ → List ℕ → Location → Outcome (List ℕ)
block_by image idat l =
    let s = source (location_in l).entry.method image idat in
    block_from (lies_by l (length s)) s (extents_of l)
