-- A directory is a count and that many entries of twelve bytes: a tag, a type, how many values, and where they stand.
-- Below, `e` is the byte order, `b` the block, `d` a directory, `x` an entry.
use Rattle.std.specs.Prelude.{ℕ, zero, suc, ◌+◌, ◌*◌, Bool, ◌&&◌, List, [], ◌∷◌, length, leb, eqb}
use Rattle.std.proofs.Math.Option.{Option}
use Rattle.rules.specs.Doc.Outcomes.{Outcome, fine, ◌>>=◌, require}
use Rattle.rules.specs.Doc.Lists.{only, first_of}
use Rattle.rules.specs.Doc.Bytes.{part}
use Rattle.rules.specs.Doc.Endian.{Endian, number_in}

-- The types that are asked for: ASCII is text, LONG a number of four bytes, SRATIONAL two signed numbers of four bytes each, numerator and denominator.
abbrev pub ASCII : ℕ
ASCII = 2

abbrev pub LONG : ℕ
LONG = 4

abbrev pub SRATIONAL : ℕ
SRATIONAL = 10

-- The tags that are looked for, by Exif's names.
abbrev pub exif_pointer : ℕ
exif_pointer = 0x8769

abbrev pub date_time_original : ℕ
date_time_original = 0x9003

abbrev pub exposure_bias_value : ℕ
exposure_bias_value = 0x9204

-- `place` is what the last four bytes say: where the values stand, or for the pointer, where the Exif directory is.
pub record Entry : Type 0 where
  pub tag : ℕ
  pub kind : ℕ
  pub count : ℕ
  pub place : ℕ

unfoldable pub entry_at : Endian → List ℕ → ℕ → Entry
entry_at e b at =
    record { tag = number_in e b at 2; kind = number_in e b (at + 2) 2; count = number_in e b (at + 4) 4; place = number_in e b (at + 8) 4 }

-- n entries, from a position on
unfoldable pub entries : Endian → List ℕ → ℕ → ℕ → List Entry
entries e b at zero = []
entries e b at (suc n) = entry_at e b at ∷ entries e b (at + 12) n

-- where the entries of a directory begin, and how many there are
pub record Directory : Type 0 where
  pub from : ℕ
  pub count : ℕ

-- the directory at a position. The count or an entry outside the block: 35.
unfoldable pub directory : Endian → List ℕ → ℕ → Outcome Directory
directory e b at = do
  _ ← require (leb (at + 2) (length b)) 35
  _ ← require (leb (at + 2 + 12 * number_in e b at 2) (length b)) 35
  fine (record { from = at + 2; count = number_in e b at 2 })

-- The first entry with a tag counts.
unfoldable pub first_with : ℕ → List Entry → Option Entry
first_with tag es = first_of (only (λ x. eqb x.tag tag) es)

-- the first entry of a directory with a tag
unfoldable pub find : Endian → List ℕ → Directory → ℕ → Option Entry
find e b d tag = first_with tag (entries e b d.from d.count)

-- whether an entry has just so many values of a type
abbrev pub holds : ℕ → ℕ → Entry → Bool
holds wanted many x = eqb x.kind wanted && eqb x.count many

-- the n bytes that an entry points to. Any of them outside the block: 35.
unfoldable pub value_of : List ℕ → ℕ → Entry → Outcome (List ℕ)
value_of b n x = require (leb (x.place + n) (length b)) 35 >>= λ u. fine (part b x.place n)
