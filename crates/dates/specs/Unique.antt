-- No two answers say the same, so the contract of `parse` determines its answer.
use Rattle.std.specs.Prelude.{◌≡◌, refl, List, ℕ, Option, Some, None}
use Rattle.rules.specs.Doc.Outcomes.{Outcome, fine, refused}
use Rattle.rules.specs.Laws.Back.{one}
use Rattle.capture_rules.specs.Doc.Time as doc
use Rattle.dates.specs.Told.{parsed_of}
use Rattle.dates.specs.declared.Time.{Time}

abbrev pub as_time : doc.Time → Time
as_time t = record { year = t.year; month = t.month; day = t.day; hour = t.hour; minute = t.minute; second = t.second }

abbrev pub as_parsed : Outcome doc.Time → Option Time
as_parsed (fine t) = Some (as_time t)
as_parsed (refused n) = None

pub parsed_back : (x : Option Time) → as_parsed (parsed_of x) ≡ x
parsed_back (Some t) = refl
parsed_back None = refl

pub parsed_one : (value : List ℕ) {x y : Option Time} → parsed_of x ≡ doc.time value → parsed_of y ≡ doc.time value → x ≡ y
parsed_one value e f = one parsed_of as_parsed parsed_back e f
