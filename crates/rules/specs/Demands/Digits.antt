-- The numbers of a listing can be read back, so no two numbers are printed alike.
use Rattle.std.specs.Prelude.{◌≡◌, ℕ, zero, suc, ◌+◌, ◌-◌, ◌*◌, ◌/◌, ◌%◌, ◌^◌, ◌≤◌, ◌<◌, List, [], ◌∷◌, ◌++◌, ltb, if◌then◌else◌}
use Rattle.std.proofs.Common.{◌∙◌, pow-suc, arith, lt-ltb, le-ltb, ltb-true, ltb-false}
use Rattle.rules.specs.Doc.Text.{digit, hex, decimal_to, decimal}
use Rattle.rules.specs.Laws.Rows.{by_test}

-- what a digit stands for: `0` to `9`, then `a` to `f`
unfoldable pub digit_value : ℕ → ℕ
digit_value c = if ltb c 58 then c - 48 else c - 87

-- the number that digits in a base stand for, behind those of n
unfoldable pub value_from : ℕ → ℕ → List ℕ → ℕ
value_from base n [] = n
value_from base n (c ∷ cs) = value_from base (n * base + digit_value c) cs

digit_value_is : (d : ℕ) → digit_value (digit d) ≡ d
unfolding digit_value digit
digit_value_is d =
    by_test (λ (c : ℕ). (if ltb c 58 then c - 48 else c - 87) ≡ d) (ltb d 10)
    (λ e. rw (lt-ltb (48 + d) 58 (omega (arith, ltb-true d 10 e))) (omega arith))
    (λ e. rw (le-ltb (87 + d) 58 (omega arith)) (omega arith))

-- one digit more, in any base
pub one_more : (base n : ℕ) (cs : List ℕ) (d : ℕ) → value_from base n (cs ++ (digit d ∷ [])) ≡ value_from base n cs * base + d
unfolding value_from
one_more base n [] d = rw (digit_value_is d)
one_more base n (c ∷ cs) d = one_more base (n * base + digit_value c) cs d

decimal_to_is : (k n : ℕ) → n ≤ k → value_from 10 0 (decimal_to k n) ≡ n
unfolding decimal_to value_from
decimal_to_is zero n h = one_more 10 0 [] (n % 10) ∙ omega arith
decimal_to_is (suc k) n h =
    by_test (λ (cs : List ℕ). value_from 10 0 cs ≡ n) (ltb n 10) (λ e. one_more 10 0 [] n ∙ omega arith)
    (λ e. one_more 10 0 (decimal_to k (n / 10)) (n % 10) ∙ rw (decimal_to_is k (n / 10) (omega (arith, ltb-false n 10 e))) (omega arith))

pub decimal_back : (n : ℕ) → value_from 10 0 (decimal n) ≡ n
unfolding decimal
decimal_back n = decimal_to_is n n (omega arith)

-- k digits in base 16 hold every number below 16 to the k
pub hex_back : (k n : ℕ) → n < 16 ^ k → value_from 16 0 (hex k n) ≡ n
unfolding hex value_from
hex_back zero n h = omega arith
hex_back (suc k) n h =
    let e : 16 ^ suc k ≡ 16 ^ k * 16 = pow-suc 16 k in
    one_more 16 0 (hex k (n / 16)) (n % 16) ∙ rw (hex_back k (n / 16) (omega arith)) (omega arith)
