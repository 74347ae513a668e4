-- A date and a time of day: twenty bytes of the shape `YYYY:MM:DD HH:MM:SS` and a zero byte, that name a day of the Gregorian calendar from year 1 on.
use Rattle.std.specs.Prelude.{ℕ, zero, suc, ◌+◌, ◌-◌, ◌*◌, ◌%◌, Bool, true, false, not, ◌&&◌, ◌||◌, List, [], ◌∷◌, ◌++◌, leb, eqb, if◌then◌else◌}
use Rattle.rules.specs.Doc.Outcomes.{Outcome, fine, ◌>>=◌, require}
use Rattle.rules.specs.Doc.Lists.{any}
use Rattle.rules.specs.Doc.Bytes.{byte_at}
use Rattle.rules.specs.Doc.Text.{ascii, is_digit}

-- A date and a time of day. Elsewhere "the date", as in `date_in` and `date=`, is both.
pub record Time : Type 0 where
  pub year : ℕ
  pub month : ℕ
  pub day : ℕ
  pub hour : ℕ
  pub minute : ℕ
  pub second : ℕ

-- ---- The shape

abbrev pub between : ℕ → ℕ → ℕ → Bool
between low high n = leb low n && leb n high

-- A `0` in the pattern stands for any digit, every other byte for itself.
unfoldable pub pattern : List ℕ
pattern = ascii "0000:00:00 00:00:00" ++ (0 ∷ [])

unfoldable pub fits : ℕ → ℕ → Bool
fits p c = if eqb p 48 then is_digit c else eqb c p

-- byte for byte, and of the same length
unfoldable pub alike : List ℕ → List ℕ → Bool
alike [] [] = true
alike [] (c ∷ cs) = false
alike (p ∷ ps) [] = false
alike (p ∷ ps) (c ∷ cs) = fits p c && alike ps cs

-- the number that n decimal digits from a position make
unfoldable pub decimal_at : List ℕ → ℕ → ℕ → ℕ
decimal_at s at zero = 0
decimal_at s at (suc n) = decimal_at s at n * 10 + (byte_at s (at + n) - 48)

-- where the six numbers stand
unfoldable pub time_in : List ℕ → Time
time_in s =
    record {
      year = decimal_at s 0 4;
      month = decimal_at s 5 2;
      day = decimal_at s 8 2;
      hour = decimal_at s 11 2;
      minute = decimal_at s 14 2;
      second = decimal_at s 17 2;
    }

-- ---- The calendar

abbrev pub divides : ℕ → ℕ → Bool
divides d n = eqb (n % d) 0

-- Every fourth year is a leap year; of the full centuries only every fourth one is.
unfoldable pub leap : ℕ → Bool
leap year = divides 4 year && (not (divides 100 year) || divides 400 year)

-- the days of a month
unfoldable pub days_in : ℕ → ℕ → ℕ
days_in year month =
    if eqb month 2 then (if leap year then 29 else 28)
    else if any (eqb month) (4 ∷ 6 ∷ 9 ∷ 11 ∷ []) then 30
    else 31

unfoldable pub is_date : Time → Bool
is_date t = leb 1 t.year && between 1 12 t.month && between 1 (days_in t.year t.month) t.day

-- There is no second 60.
unfoldable pub is_clock : Time → Bool
is_clock t = leb t.hour 23 && leb t.minute 59 && leb t.second 59

-- ---- Both

-- Another shape, or no real date and time: 37.
unfoldable pub time : List ℕ → Outcome Time
time s = do
  _ ← require (alike pattern s) 37
  _ ← require (is_date (time_in s) && is_clock (time_in s)) 37
  fine (time_in s)
