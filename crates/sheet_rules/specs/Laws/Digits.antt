-- Where the digits of a number end: so a number in front of something else can be told from it in one way only.
use Rattle.std.specs.Prelude.{◌≡◌, refl, ℕ, zero, suc, ◌+◌, ◌/◌, ◌%◌, ◌<◌, true, List, [], ◌∷◌, ◌++◌, ltb}
use Rattle.std.proofs.Common.{sym, ap, ◌∙◌, arith, append-nil, le-leb, lt-ltb, ltb-true}
use Rattle.std.proofs.lemmas.List.{append_cancel_left}
use Rattle.rules.specs.Doc.Text.{digit, decimal_to, decimal, is_digit}
use Rattle.rules.specs.Laws.Rows.{by_test}
use Rattle.rules.specs.Demands.Digits.{value_from, decimal_back}
use Rattle.sheet_rules.specs.Doc.Rows.{digit_then, digits_in}

abbrev pub AllDigits : List ℕ → Type 0
AllDigits [] = Unit
AllDigits (c ∷ s) = (is_digit c ≡ true) × AllDigits s

-- no digit stands at the front
abbrev pub NoDigit : List ℕ → Type 0
NoDigit s = digits_in s ≡ []

all_append : (a b : List ℕ) → AllDigits a → AllDigits b → AllDigits (a ++ b)
all_append [] b p q = q
all_append (c ∷ a) b p q = (p.0, all_append a b p.1 q)

pub digits_append : (a b : List ℕ) → AllDigits a → digits_in (a ++ b) ≡ a ++ digits_in b
unfolding digits_in digit_then
digits_append [] b p = refl
digits_append (c ∷ a) b p = rw (p.0, digits_append a b p.1)

-- ---- The digits of a number

pub is_digit_is : (d : ℕ) → d < 10 → is_digit (digit d) ≡ true
unfolding digit
is_digit_is d h = rw (lt-ltb d 10 h, le-leb 48 (48 + d) (omega arith), le-leb (48 + d) 57 (omega arith))

decimal_to_is : (k n : ℕ) → AllDigits (decimal_to k n)
unfolding decimal_to
decimal_to_is zero n = (is_digit_is (n % 10) (omega arith), tt)
decimal_to_is (suc k) n =
    by_test AllDigits (ltb n 10) (λ e. (is_digit_is n (ltb-true n 10 e), tt))
    (λ e. all_append (decimal_to k (n / 10)) (digit (n % 10) ∷ []) (decimal_to_is k (n / 10)) (is_digit_is (n % 10) (omega arith), tt))

pub decimal_digits : (n : ℕ) → AllDigits (decimal n)
unfolding decimal
decimal_digits n = decimal_to_is n n

-- a number in front of something that is no digit
pub digits_front : (n : ℕ) (rest : List ℕ) → NoDigit rest → digits_in (decimal n ++ rest) ≡ decimal n
digits_front n rest e = rw (digits_append (decimal n) rest (decimal_digits n), e) (append-nil (decimal n))

-- ---- One way only

pub decimal_one_number : (n m : ℕ) → decimal n ≡ decimal m → n ≡ m
decimal_one_number n m e = sym (decimal_back n) ∙ ap (value_from 10 0) e ∙ decimal_back m

pub split_one : (n m : ℕ) (r t : List ℕ) → NoDigit r → NoDigit t → decimal n ++ r ≡ decimal m ++ t → (n ≡ m) × (r ≡ t)
split_one n m r t p q e =
    let d : decimal n ≡ decimal m = sym (digits_front n r p) ∙ ap digits_in e ∙ digits_front m t q in
    (decimal_one_number n m d, append_cancel_left (decimal n) r t (rw (← d) at e))
