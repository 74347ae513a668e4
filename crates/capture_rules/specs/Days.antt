-- Days and times of day at the edges of the calendar, and bytes that are nearly of the shape: one list with one claim. The checker computes it.
-- No axiom and no premise is used.
use Rattle.std.specs.Prelude.{ℕ, suc, ◌+◌, Bool, List, [], ◌∷◌, ◌++◌, take, T}
use Rattle.rules.specs.Doc.Outcomes.{Outcome, fine, refused}
use Rattle.rules.specs.Doc.Lists.{each, same}
use Rattle.rules.specs.Doc.Text.{ascii}
use Rattle.rules.specs.Cases.{line, every}
use Rattle.capture_rules.specs.Doc.Time.{Time, time}
use Rattle.capture_rules.specs.Doc.Line.{time_text}
use Rattle.capture_rules.specs.Cases.{changed}
use Rattle.capture_rules.specs.Unfold.{request}

pub record Case : Type 0 where
  pub value : List ℕ
  pub says : List ℕ

-- taken: what is printed is what stood there
unfoldable pub takes : List ℕ → Case
takes value = record { value = value; says = value }

unfoldable pub refuses : List ℕ → Case
refuses value = record { value = value; says = 37 ∷ [] }

-- the twenty bytes of a day at noon, and of a time of day
unfoldable pub day : ℕ → ℕ → ℕ → List ℕ
day y m d = time_text (record { year = y; month = m; day = d; hour = 12; minute = 0; second = 0 }) ++ (0 ∷ [])

unfoldable pub clock : ℕ → ℕ → ℕ → List ℕ
clock h m s = time_text (record { year = 2023; month = 6; day = 14; hour = h; minute = m; second = s }) ++ (0 ∷ [])

-- ---- The months of a year, from one on, with the last day of each

unfoldable pub months_from : ℕ → ℕ → List ℕ → List Case
months_from y m [] = []
months_from y m (n ∷ ns) =
    refuses (day y m 0) ∷ takes (day y m 1) ∷ takes (day y m n) ∷ refuses (day y m (n + 1)) ∷ months_from y (suc m) ns

-- a year whose February has so many days, and that has no month 0 and no month 13
unfoldable pub year_with : ℕ → ℕ → List Case
year_with february y =
    refuses (day y 0 1)
    ∷ refuses (day y 13 1)
    ∷ months_from y 1 (31 ∷ february ∷ 31 ∷ 30 ∷ 31 ∷ 30 ∷ 31 ∷ 31 ∷ 30 ∷ 31 ∷ 30 ∷ 31 ∷ [])

unfoldable pub dates : List Case
dates =
    each (year_with 28) (1 ∷ 1900 ∷ 2023 ∷ 9999 ∷ [])
    ++ each (year_with 29) (4 ∷ 2000 ∷ 2024 ∷ [])
    -- there is no year 0
    ++ (refuses (day 0 1 1) ∷ refuses (day 0 2 29) ∷ refuses (day 0 12 31) ∷ [])

unfoldable pub clocks : List Case
clocks =
    takes (clock 0 0 0)
    ∷ takes (clock 23 59 59)
    ∷ refuses (clock 24 0 0)
    ∷ refuses (clock 0 60 0)
    ∷ refuses (clock 0 0 60)
    ∷ []

-- ---- The shape

unfoldable pub ones : List ℕ
ones = ascii "1111:11:11 11:11:11" ++ (0 ∷ [])

-- in a digit's place, `/` and `:`, the neighbours of `0` and `9`
unfoldable pub digit_at : ℕ → List Case
digit_at at = refuses (changed ones at 1 47) ∷ refuses (changed ones at 1 58) ∷ []

-- in another byte's place, a digit
unfoldable pub other_at : ℕ → List Case
other_at at = refuses (changed ones at 1 49) ∷ []

unfoldable pub shapes : List Case
shapes =
    (takes ones ∷ refuses [] ∷ refuses (take 19 ones) ∷ refuses (ones ++ (0 ∷ [])) ∷ [])
    ++ each digit_at (0 ∷ 1 ∷ 2 ∷ 3 ∷ 5 ∷ 6 ∷ 8 ∷ 9 ∷ 11 ∷ 12 ∷ 14 ∷ 15 ∷ 17 ∷ 18 ∷ [])
    ++ each other_at (4 ∷ 7 ∷ 10 ∷ 13 ∷ 16 ∷ 19 ∷ [])

-- ---- The claim

unfoldable pub said : Outcome Time → List ℕ
said (fine t) = time_text t ++ (0 ∷ [])
said (refused n) = n ∷ []

unfoldable pub right : Case → Bool
right c = same (said (time c.value)) c.says

pub all_days : T (every right (dates ++ clocks ++ shapes))
unfolding request each every right said same takes refuses day clock months_from year_with dates clocks ones digit_at other_at shapes changed line
all_days = tt
