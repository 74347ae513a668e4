-- A fraction in lowest terms: no number above 1 divides both parts, so 2/4 is 1/2. The denominator is above zero: a sign that stood below goes above.
use Rattle.std.specs.Prelude.{ℕ, zero, suc, ◌-◌, ◌/◌, ◌%◌, ◌^◌, Bool, true, false, not, ℤ, pos, neg_ℤ, nat_abs, ltb, if◌then◌else◌}
use Rattle.std.specs.Bool.{beq}
use Rattle.std.specs.Int.Signed.{lt_z}

pub record Fraction : Type 0 where
  pub num : ℤ
  pub den : ℕ

-- four bytes that read as n without a sign, read with one (two's complement): from 2^31 on it is below zero
unfoldable pub signed32 : ℕ → ℤ
signed32 n = if ltb n (2 ^ 31) then pos n else neg_ℤ (pos (2 ^ 32 - n))

-- The greatest common divisor by Euclid. A definition has to be seen to end, so it is given a number of turns, n.
unfoldable pub gcd_in : ℕ → ℕ → ℕ → ℕ
gcd_in zero a b = a
gcd_in (suc n) a zero = a
gcd_in (suc n) a (suc b) = gcd_in n (suc b) (a % suc b)

-- Each turn makes the second number smaller, so as many turns as it says are enough.
abbrev pub gcd : ℕ → ℕ → ℕ
gcd a b = gcd_in b a b

-- a number by its size, which is the number without its sign, and whether it is below zero
abbrev pub with_sign : Bool → ℕ → ℤ
with_sign true n = neg_ℤ (pos n)
with_sign false n = pos n

-- just one of two is below zero
abbrev pub opposite : ℤ → ℤ → Bool
opposite x y = not (beq (lt_z x (pos 0)) (lt_z y (pos 0)))

-- Both sizes are divided by their greatest common divisor.
unfoldable pub lowest : ℤ → ℤ → Fraction
lowest x y =
    let g = gcd (nat_abs x) (nat_abs y) in
    record { num = with_sign (opposite x y) (nat_abs x / g); den = nat_abs y / g }
