-- What the answers say: document 01's number, or the values, of each case.
use Rattle.std.specs.Prelude.{ℕ, ◌+◌, Result}
use Rattle.rules.specs.Doc.Outcomes.{Outcome}
use Rattle.rules.specs.Doc.Bytes as doc
use Rattle.rules.specs.Doc.Headers.{Box, box_of}
use Rattle.rules.specs.Results.{outcome}
use Rattle.boxes.specs.declared.refusal.Refusal.{Refusal}
use Rattle.boxes.specs.declared.refusal.Refusal.TheVariants as r
use Rattle.boxes.specs.declared.header.Header.{Header}
use Rattle.boxes.specs.declared.header.Unread.{Unread}
use Rattle.boxes.specs.declared.header.Unread.TheVariants as u
use Rattle.boxes.specs.declared.level.Child.{Child}
use Rattle.boxes.specs.declared.span.Span.{Span}

-- the table "Numbers given back", and the numbers that request three adds to it
abbrev pub number : Refusal → ℕ
number r.NotFound = 1
number r.ImageEnds = 2
number r.BoxTooSmall = 3
number r.InvalidBoxSize = 4
number r.LargeSeek = 5
number r.MetaBeforeFtyp = 6
number r.NoKnownBrand = 7
number r.MetaVersion = 8
number r.InfeVersion = 9
number r.IlocVersion = 10
number r.BaseOffsetSize = 11
number r.IndexSize = 12
number r.OffsetSize = 13
number r.LengthSize = 14
number r.ExternalReference = 15
number r.NoIloc = 16
number r.NoMatchingEntry = 17
number r.InvalidOffset = 18
number r.InvalidLength = 19
number r.OutOfIdat = 20
number r.NoIdat = 21
number r.ByItemOffset = 22
number r.UnknownMethod = 23
number r.TooLarge = 24
number r.UnderFour = 25
number r.HeaderOffset = 26
number r.NoRoom = 28
number r.ListingTooLong = 29
number r.NotJpeg = 31
number r.NoMarker = 32
number r.SegmentTooSmall = 33

-- what a header at a position announces, where a cut one is `cut`
abbrev pub unread : ℕ → Unread → ℕ
unread cut u.Cut = cut
unread cut u.Invalid = 4

abbrev pub announces : ℕ → ℕ → Result Header Unread → Outcome Box
announces cut at = outcome (unread cut) (λ h. box_of at h.kind h.from (h.from + h.size))

-- of a box at a position, inside another and of a file
abbrev pub child : ℕ → Result Child Refusal → Outcome Box
child at = outcome number (λ c. box_of at c.kind c.from c.to)

abbrev pub file_box : ℕ → Result Header Refusal → Outcome Box
file_box at = outcome number (λ h. box_of at h.kind h.from (h.from + h.size))

-- where bytes are
abbrev pub span_of : Span → doc.Span
span_of p = record { from = p.from; to = p.to }

-- of a field
abbrev pub field_of : Result ℕ Refusal → Outcome ℕ
field_of = outcome number (λ v. v)
