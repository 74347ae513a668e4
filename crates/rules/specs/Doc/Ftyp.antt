-- Step 1: `ftyp`, and the top level that it stands in.
use Rattle.std.specs.Prelude.{ℕ, zero, suc, ◌+◌, ◌-◌, ◌/◌, Bool, ◌||◌, List, [], ◌∷◌, length, leb, eqb, if◌then◌else◌}
use Rattle.rules.specs.Doc.Outcomes.{Outcome, fine, refused, ◌>>=◌, require}
use Rattle.rules.specs.Doc.Lists.{any}
use Rattle.rules.specs.Doc.Bytes.{number_at}
use Rattle.rules.specs.Doc.Walks.{End, ended, cut_at, refused_at, stopped_at, Walk}
use Rattle.rules.specs.Doc.Headers.{ftyp, meta, Box, is_kind, is, whole, skips}
use Rattle.rules.specs.Doc.Levels.{Level, boxes}

-- The two brands, as the numbers of their four letters.
abbrev pub mif1 : ℕ
mif1 = 0x6d696631

abbrev pub msf1 : ℕ
msf1 = 0x6d736631

-- One of the two.
abbrev pub known : ℕ → Bool
known brand = eqb brand mif1 || eqb brand msf1

-- n four-byte brands, from a position on
unfoldable pub brands_from : List ℕ → ℕ → ℕ → List ℕ
brands_from body at zero = []
brands_from body at (suc n) = number_at body at 4 ∷ brands_from body (at + 4) n

-- Under 8 body bytes is 3. Then four-byte brands; trailing 1 to 3 bytes are ignored. One must be `mif1` or `msf1`, else 7. The major brand
-- doesn't count: it stands in the first 8.
unfoldable pub brand_test : List ℕ → Outcome (Unit {0})
brand_test body = do
  _ ← require (leb 8 (length body)) 3
  require (any known (brands_from body 8 ((length body - 8) / 4))) 7

-- An `ftyp` body cut by the image's end is 2; every other box is skipped. Of `meta` nothing is asked yet: 6 comes first (Meta).
unfoldable pub top_fits : ℕ → Box → Outcome (Unit {0})
top_fits n b = skips b >>= λ u. if is ftyp b then whole 2 n b else fine tt

-- Every `ftyp` before the first `meta` is tested. The first `meta` ends the walk.
unfoldable pub top_level : Level
top_level = record { cut_number = 2; fits = top_fits; opens = is_kind ftyp; test = brand_test; ends = is_kind meta }

-- the boxes of an image, up to the first `meta`
unfoldable pub top : List ℕ → Walk Box
top img = boxes top_level img 0

-- The box that ended the walk. No byte left is refusal 1.
unfoldable pub stopped : End Box → Outcome Box
stopped ended = refused 1
stopped (cut_at n at) = refused n
stopped (refused_at n b) = refused n
stopped (stopped_at b) = fine b
