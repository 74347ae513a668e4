-- Bytes that are like a pattern: there are as many, each fits its place, and where the pattern has zeros they are digits, which make a number of
-- so many places. And what a time that is taken was asked.
use Rattle.std.specs.Prelude.{◌≡◌, refl, Bool, true, ◌&&◌, List, [], ◌∷◌, ℕ, zero, suc, ◌+◌, ◌*◌, ◌^◌, ◌≤◌, ◌<◌, length, drop, leb, eqb}
use Rattle.std.proofs.Common.{sym, ap, true≢false, pow-suc, lt_of_lt_of_le, le_of_suc-le-suc, arith, lit<, drop-cons, leb-true, eqb-true, ne_eqb, below_more}
use Rattle.std.proofs.Math.Nat.{pow-le-pow_right}
use Rattle.rules.specs.Doc.Outcomes.{fine, require}
use Rattle.rules.specs.Doc.Bytes.{byte_at}
use Rattle.rules.specs.Laws.Rows.{bind_fine, required, both_true}
use Rattle.capture_rules.specs.Doc.Time.{Time, pattern, fits, alike, decimal_at, time_in, is_date, is_clock, time}

-- ---- Like a pattern

pub alike_length : (p s : List ℕ) → alike p s ≡ true → length p ≡ length s
unfolding alike
alike_length [] [] e = refl
alike_length [] (c ∷ cs) e = absurd (true≢false (sym e))
alike_length (p ∷ ps) [] e = absurd (true≢false (sym e))
alike_length (p ∷ ps) (c ∷ cs) e = ap suc (alike_length ps cs (both_true (fits p c) (alike ps cs) e).1)

pub alike_at : (p s : List ℕ) → alike p s ≡ true → (i : ℕ) → i < length p → fits (byte_at p i) (byte_at s i) ≡ true
unfolding alike
alike_at [] s e i h = absurd (omega arith)
alike_at (p ∷ ps) [] e i h = absurd (true≢false (sym e))
alike_at (p ∷ ps) (c ∷ cs) e zero h = (both_true (fits p c) (alike ps cs) e).0
alike_at (p ∷ ps) (c ∷ cs) e (suc i) h = alike_at ps cs (both_true (fits p c) (alike ps cs) e).1 i (le_of_suc-le-suc h)

-- from a position on, in both: the bytes there, and the rest
pub alike_next : (p s : List ℕ) (i : ℕ) → i < length p → i < length s
    → alike (drop i p) (drop i s) ≡ (fits (byte_at p i) (byte_at s i) && alike (drop (suc i) p) (drop (suc i) s))
unfolding alike
alike_next p s i h k = rw (drop-cons p i 0 h, drop-cons s i 0 k)

-- ---- Digits

abbrev pub IsDigit : ℕ → Type 0
IsDigit c = (48 ≤ c) × (c ≤ 57)

-- n digits from a position
abbrev pub Digits : List ℕ → ℕ → ℕ → Type 0
Digits s at n = (i : ℕ) → i < n → IsDigit (byte_at s (at + i))

pub fits_digit : (c : ℕ) → fits 48 c ≡ true → IsDigit c
unfolding fits
fits_digit c e =
    let l = both_true (leb 48 c) (leb c 57) e in
    (leb-true 48 c l.0, leb-true c 57 l.1)

pub fits_same : (p c : ℕ) → (p ≡ 48 → ⊥) → fits p c ≡ true → c ≡ p
unfolding fits
fits_same p c n e = eqb-true c p (rw (ne_eqb p 48 n) at e)

-- whether a pattern has n zeros from a position on
unfoldable pub zeros : List ℕ → ℕ → ℕ → Bool
zeros p at zero = true
zeros p at (suc n) = zeros p at n && eqb (byte_at p (at + n)) 48

zero_at : (p : List ℕ) (at n : ℕ) → zeros p at n ≡ true → (i : ℕ) → i < n → byte_at p (at + i) ≡ 48
unfolding zeros
zero_at p at zero e i h = absurd (omega arith)
zero_at p at (suc n) e i h =
    let l = both_true (zeros p at n) (eqb (byte_at p (at + n)) 48) e in
    below_more (λ k. byte_at p (at + k) ≡ 48) n (zero_at p at n l.0) (eqb-true (byte_at p (at + n)) 48 l.1) i (omega arith)

-- where the pattern has zeros, bytes like it have digits
pub digits_in_is : (p s : List ℕ) (at n : ℕ) → alike p s ≡ true → zeros p at n ≡ true → at + n ≤ length p → Digits s at n
digits_in_is p s at n e z h i k = fits_digit (byte_at s (at + i)) (rw (zero_at p at n z i k) at (alike_at p s e (at + i) (omega arith)))

-- so of the pattern of a date and a time of day
pub time_digits : (s : List ℕ) → alike pattern s ≡ true → (at n : ℕ) → zeros pattern at n ≡ true → at + n ≤ 20 → (at + n ≤ length s) × Digits s at n
unfolding pattern
time_digits s e at n z h = (omega (arith, alike_length pattern s e), digits_in_is pattern s at n e z h)

-- n digits make a number below 10 to the n
pub decimal_below : (s : List ℕ) (at n : ℕ) → Digits s at n → decimal_at s at n < 10 ^ n
unfolding decimal_at
decimal_below s at zero d = lit< tt
decimal_below s at (suc n) d =
    let e : 10 ^ suc n ≡ 10 ^ n * 10 = pow-suc 10 n in
    let h : decimal_at s at n < 10 ^ n = decimal_below s at n (λ i k. d i (omega arith)) in
    omega (arith, d n (omega arith))

-- fewer than four digits leave room for one more in 16 bits
pub decimal_room : (s : List ℕ) (at i n : ℕ) → Digits s at n → i < n → n ≤ 4 → decimal_at s at i < 10 ^ 3
decimal_room s at i n d h k =
    let few : i ≤ 3 = omega arith in
    lt_of_lt_of_le (decimal_below s at i (λ j l. d j (omega arith))) (pow-le-pow_right (lit< tt) few)

-- ---- What was taken

-- A time that is taken has the shape, is what stands at the six places, and was asked whether it is a date and a time of day.
pub record Taken (s : List ℕ) (t : Time) : Type 0 where
  pub shape : alike pattern s ≡ true
  pub read : time_in s ≡ t
  pub date : is_date t ≡ true
  pub clock : is_clock t ≡ true

pub taken : (s : List ℕ) {t : Time} → time s ≡ fine t → Taken s t
unfolding time
taken s {t} e =
    let a = bind_fine (require (alike pattern s) 37) _ (sym e) in
    let b = bind_fine (require (is_date (time_in s) && is_clock (time_in s)) 37) (λ u. fine (time_in s)) a.2 in
    let same : t ≡ time_in s = cc in
    let asked = both_true (is_date (time_in s)) (is_clock (time_in s)) (required _ 37 b.1) in
    record { shape = required _ 37 a.1; read = sym same; date = rw same asked.0; clock = rw same asked.1 }
