-- `is_heif`: whether the first `ftyp` has a known brand.
use Rattle.std.specs.Prelude.{ℕ, Bool, List}
use Rattle.rules.specs.Doc.Outcomes.{is_fine}
use Rattle.rules.specs.Doc.Headers.{ftyp, is_kind, whole}
use Rattle.rules.specs.Doc.Levels.{Level, boxes}
use Rattle.rules.specs.Doc.Ftyp.{brand_test, stopped}

-- Boxes as inside a box; the first `ftyp` is tested, and ends the walk.
unfoldable pub heif_level : Level
heif_level = record { cut_number = 3; fits = whole 3; opens = is_kind ftyp; test = brand_test; ends = is_kind ftyp }

-- Any header or body that doesn't fit, or size that is refused: no. It judges the first `ftyp` only.
unfoldable pub is_heif : List ℕ → Bool
is_heif s = is_fine (stopped (boxes heif_level s 0).end)
