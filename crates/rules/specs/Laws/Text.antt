-- Numbers as text, digit by digit, and how many digits they have.
use Rattle.std.specs.Prelude.{◌≡◌, refl, ℕ, zero, suc, ◌+◌, ◌-◌, ◌*◌, ◌/◌, ◌%◌, ◌^◌, ◌≤◌, ◌<◌, Bool, true, false, [], ◌∷◌, ◌++◌, length, ltb, if◌then◌else◌}
use Rattle.std.proofs.Common.{◌∙◌, pow-suc, arith, length-append, lt-ltb, le-ltb, ltb-true, ltb-false}
use Rattle.rules.specs.Doc.Text.{digit, hex, decimal_to, decimal}
use Rattle.rules.specs.Laws.Rows.{enough}

-- ---- Decimal numbers

digits_same : (f g n : ℕ) → ((m : ℕ) → m ≤ n - 1 → decimal_to f m ≡ decimal_to g m) → decimal_to (suc f) n ≡ decimal_to (suc g) n
unfolding decimal_to
digits_same f g n e = go (ltb n 10) refl
  where
    go : (t : Bool) → ltb n 10 ≡ t
        → (if t then digit n ∷ [] else (decimal_to f (n / 10) ++ (digit (n % 10) ∷ []))) ≡ (if t then digit n ∷ [] else (decimal_to g (n / 10) ++ (digit (n % 10) ∷ [])))
    go true l = refl
    go false l = rw (e (n / 10) (omega (arith, ltb-false n 10 l)))

decimal_to_is : (f g n : ℕ) → n ≤ f → n ≤ g → decimal_to f n ≡ decimal_to g n
unfolding decimal_to
decimal_to_is = enough decimal_to (λ n. n) (λ f n z. rw z) digits_same

pub decimal_one : (n : ℕ) → n < 10 → decimal n ≡ digit n ∷ []
unfolding decimal decimal_to
decimal_one n h = decimal_to_is n (suc n) n (omega arith) (omega arith) ∙ rw (lt-ltb n 10 h)

pub decimal_more : (n : ℕ) → 10 ≤ n → decimal n ≡ decimal (n / 10) ++ (digit (n % 10) ∷ [])
unfolding decimal decimal_to
decimal_more n h = decimal_to_is n (suc n) n (omega arith) (omega arith) ∙ rw (le-ltb n 10 h, decimal_to_is n (n / 10) (n / 10) (omega arith) (omega arith))

-- ---- Numbers in base 16

pub hex_none : (k n : ℕ) → k ≡ 0 → hex k n ≡ []
unfolding hex
hex_none k n e = rw e

pub hex_more : (k n : ℕ) → (k ≡ 0 → ⊥) → hex k n ≡ hex (k - 1) (n / 16) ++ (digit (n % 16) ∷ [])
unfolding hex
hex_more zero n h = absurd (h refl)
hex_more (suc k) n h = let e : suc k - 1 ≡ k = omega arith in rw e

-- ---- How long they are

pub one_digit : (n : ℕ) → n < 10 → length (decimal n) ≡ 1
one_digit n h = rw (decimal_one n h)

-- one digit more than a number ten times smaller
pub decimal_longer : (n : ℕ) → 10 ≤ n → length (decimal n) ≡ length (decimal (n / 10)) + 1
decimal_longer n h = rw (decimal_more n h, length-append (decimal (n / 10)) (digit (n % 10) ∷ []))

digits_more : (b k n : ℕ) → n < b * 10 → (n / 10 < b → length (decimal (n / 10)) ≤ suc k) → length (decimal n) ≤ suc (suc k)
digits_more b k n h ih = go (ltb n 10) refl
  where
    go : (t : Bool) → ltb n 10 ≡ t → length (decimal n) ≤ suc (suc k)
    go true e = omega (arith, one_digit n (ltb-true n 10 e))
    go false e = omega (arith, decimal_longer n (ltb-false n 10 e), ih (omega arith))

-- a number below 10 ^ k has at most k digits
pub digits_most : (k n : ℕ) → n < 10 ^ suc k → length (decimal n) ≤ suc k
digits_most zero n h = omega (arith, one_digit n h)
digits_most (suc k) n h = digits_more (10 ^ suc k) k n (rw (pow-suc 10 (suc k)) at h) (digits_most k (n / 10))

pub two_digits : (n : ℕ) → n < 100 → length (decimal n) ≤ 2
two_digits = digits_most 1

pub five_digits : (n : ℕ) → n < 100000 → length (decimal n) ≤ 5
five_digits = digits_most 4

pub ten_digits : (n : ℕ) → n < 10000000000 → length (decimal n) ≤ 10
ten_digits = digits_most 9

-- every number of 64 bits
pub twenty_digits : (n : ℕ) → n < 2 ^ 64 → length (decimal n) ≤ 20
twenty_digits n h = digits_most 19 n (omega (arith, h))

pub hex_longer : (k n : ℕ) → (k ≡ 0 → ⊥) → length (hex k n) ≡ length (hex (k - 1) (n / 16)) + 1
hex_longer k n h = rw (hex_more k n h, length-append (hex (k - 1) (n / 16)) (digit (n % 16) ∷ []))

pub hex_length : (k n : ℕ) → length (hex k n) ≡ k
unfolding hex
hex_length zero n = refl
hex_length (suc k) n = rw (length-append (hex k (n / 16)) (digit (n % 16) ∷ []), hex_length k (n / 16)) (omega arith)
