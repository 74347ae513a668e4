-- The date handed out is a date of the Gregorian calendar from year 1 on, and the time of day is one: said in inequalities, and with leap years by
-- what divides a year.
use Rattle.std.specs.Prelude.{◌≡◌, refl, Bool, true, false, not, ◌&&◌, ◌||◌, List, [], ◌∷◌, ◌⊎◌, ℕ, zero, suc, ◌+◌, ◌%◌, ◌≤◌, leb, eqb, if◌then◌else◌}
use Rattle.std.proofs.Common.{ap, inl, inr, ⊎_elim, arith, lit≤, leb-true, eqb-true, eq-eqb, ne_eqb}
use Rattle.std.proofs.lemmas.Bool.{eqb-false}
use Rattle.rules.specs.Doc.Outcomes.{fine}
use Rattle.rules.specs.Doc.Lists.{any}
use Rattle.rules.specs.Laws.Rows.{by_test, both_true}
use Rattle.capture_rules.specs.Doc.Time.{Time, pattern, decimal_at, time_in, divides, between, leap, days_in, is_date, is_clock, time}
use Rattle.capture_rules.specs.Laws.Shape.{zeros, time_digits, decimal_below, taken}

-- ---- Leap years

-- What `leap`, which computes a yes or no, has to mean, as a claim: 4 divides the year; and 100 does not, or 400 does.
abbrev pub Leap : ℕ → Type 0
Leap y = (y % 4 ≡ 0) × ((y % 100 ≡ 0 → ⊥) ⊎ (y % 400 ≡ 0))

pub leap_means : (y : ℕ) → leap y ≡ true → Leap y
unfolding leap
leap_means y e =
    let l = both_true (divides 4 y) (not (divides 100 y) || divides 400 y) e in
    (eqb-true (y % 4) 0 l.0, go (divides 100 y) refl l.1)
  where
    go : (t : Bool) → divides 100 y ≡ t → (not t || divides 400 y) ≡ true → (y % 100 ≡ 0 → ⊥) ⊎ (y % 400 ≡ 0)
    go true q f = inr (eqb-true (y % 400) 0 f)
    go false q f = inl (eqb-false (y % 100) 0 q)

pub leap_when : (y : ℕ) → Leap y → leap y ≡ true
unfolding leap
leap_when y (four, century) =
    rw (eq-eqb (y % 4) 0 four)
    (⊎_elim (λ n. rw (ne_eqb (y % 100) 0 n)) (λ e. rw (eq-eqb (y % 400) 0 e) (go (divides 100 y))) century)
  where
    go : (t : Bool) → (not t || true) ≡ true
    go true = refl
    go false = refl

-- ---- The days of a month and of a year

-- a month has 28, 29, 30 or 31
pub days_each : (P : ℕ → Type 0) → P 28 → P 29 → P 30 → P 31 → (y m : ℕ) → P (days_in y m)
unfolding days_in
days_each P a b c d y m =
    by_test P (eqb m 2) (λ e. by_test P (leap y) (λ e. b) (λ e. a)) (λ e. by_test P (any (eqb m) (4 ∷ 6 ∷ 9 ∷ 11 ∷ [])) (λ e. c) (λ e. d))

pub days_least : (y m : ℕ) → 28 ≤ days_in y m
days_least = days_each (λ n. 28 ≤ n) (lit≤ tt) (lit≤ tt) (lit≤ tt) (lit≤ tt)

pub days_most : (y m : ℕ) → days_in y m ≤ 31
days_most = days_each (λ n. n ≤ 31) (lit≤ tt) (lit≤ tt) (lit≤ tt) (lit≤ tt)

-- the days of the first months of a year
unfoldable pub days_to : ℕ → ℕ → ℕ
days_to y zero = 0
days_to y (suc m) = days_to y m + days_in y (suc m)

pub year_days : (y : ℕ) → days_to y 12 ≡ (if leap y then 366 else 365)
unfolding days_to days_in any
year_days y = go (leap y) refl
  where
    go : (t : Bool) → leap y ≡ t → days_to y 12 ≡ (if t then 366 else 365)
    go true e = rw e
    go false e = rw e

-- ---- The date handed out

-- what is claimed of a date that is handed out
pub record Real (t : Time) : Type 0 where
  pub year_least : 1 ≤ t.year
  pub year_most : t.year ≤ 9999
  pub month_least : 1 ≤ t.month
  pub month_most : t.month ≤ 12
  pub day_least : 1 ≤ t.day
  pub day_most : t.day ≤ days_in t.year t.month
  pub hour_most : t.hour ≤ 23
  pub minute_most : t.minute ≤ 59
  pub second_most : t.second ≤ 59

within : (low high n : ℕ) → between low high n ≡ true → (low ≤ n) × (n ≤ high)
within low high n e =
    let l = both_true (leb low n) (leb n high) e in
    (leb-true low n l.0, leb-true n high l.1)

pub time_real : (s : List ℕ) {t : Time} → time s ≡ fine t → Real t
unfolding is_date is_clock pattern zeros time_in
time_real s {t} e =
    let k = taken s e in
    let d = both_true (leb 1 t.year && between 1 12 t.month) (between 1 (days_in t.year t.month) t.day) k.date in
    let ym = both_true (leb 1 t.year) (between 1 12 t.month) d.0 in
    let month = within 1 12 t.month ym.1 in
    let day = within 1 (days_in t.year t.month) t.day d.1 in
    let c = both_true (leb t.hour 23 && leb t.minute 59) (leb t.second 59) k.clock in
    let hm = both_true (leb t.hour 23) (leb t.minute 59) c.0 in
    let year : decimal_at s 0 4 ≡ t.year = ap (λ x. x.year) k.read in
    record {
      year_least = leb-true 1 t.year ym.0;
      year_most = omega (arith, decimal_below s 0 4 (time_digits s k.shape 0 4 refl (lit≤ tt)).1);
      month_least = month.0;
      month_most = month.1;
      day_least = day.0;
      day_most = day.1;
      hour_most = leb-true t.hour 23 hm.0;
      minute_most = leb-true t.minute 59 hm.1;
      second_most = leb-true t.second 59 c.1;
    }
