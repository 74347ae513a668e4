-- The dates that the text has room for: a year of four digits, and two for each other number. Every date of the calendar is one. And of which answers
-- the line can be printed: of all that are given of an image.
use Rattle.std.specs.Prelude.{◌≡◌, refl, ℕ, ◌<◌, List}
use Rattle.std.proofs.Common.{arith}
use Rattle.rules.specs.Doc.Outcomes.{Outcome, fine, refused}
use Rattle.capture_rules.specs.Doc.Time.{Time}
use Rattle.capture_rules.specs.Doc.Capture.{Capture, photo}
use Rattle.capture_rules.specs.Laws.Calendar.{Real, days_most}
use Rattle.capture_rules.specs.Laws.LineText.{Small}
use Rattle.capture_rules.specs.Demands.Photo.{photo_real, photo_small}

pub record Printable (t : Time) : Type 0 where
  pub year : t.year < 10000
  pub month : t.month < 100
  pub day : t.day < 100
  pub hour : t.hour < 100
  pub minute : t.minute < 100
  pub second : t.second < 100

pub real_printable : {t : Time} → Real t → Printable t
real_printable {t} r =
    record {
      year = omega (arith, r.year_most);
      month = omega (arith, r.month_most);
      day = omega (arith, r.day_most, days_most t.year t.month);
      hour = omega (arith, r.hour_most);
      minute = omega (arith, r.minute_most);
      second = omega (arith, r.second_most);
    }

-- With the date goes a bias of 32 bits. Of a refusal nothing is asked.
abbrev pub PrintableLine : Outcome Capture → Type 0
PrintableLine (fine c) = Printable c.time × Small c.bias
PrintableLine (refused n) = Unit {0}

pub photo_printable : (img out : List ℕ) → PrintableLine (photo img out)
photo_printable img out = go (photo img out) refl
  where
    go : (o : Outcome Capture) → photo img out ≡ o → PrintableLine o
    go (fine c) e = (real_printable (photo_real img out e), photo_small img out e)
    go (refused n) e = tt
