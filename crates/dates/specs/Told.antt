-- What the answer says, in request six's words.
use Rattle.std.specs.Prelude.{Option, Some, None}
use Rattle.rules.specs.Doc.Outcomes.{Outcome, fine, refused}
use Rattle.capture_rules.specs.Doc.Time as doc
use Rattle.dates.specs.declared.Time.{Time}

abbrev pub time_of : Time → doc.Time
time_of t = record { year = t.year; month = t.month; day = t.day; hour = t.hour; minute = t.minute; second = t.second }

-- where there is no such date and time, the one refusal is 37
abbrev pub parsed_of : Option Time → Outcome doc.Time
parsed_of (Some t) = fine (time_of t)
parsed_of None = refused 37
