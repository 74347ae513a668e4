-- A number by its size and its sign, and the signed number that four bytes hold.
use Rattle.std.specs.Prelude.{◌≡◌, refl, Bool, true, false, not, ℕ, zero, suc, ◌*◌, ◌-◌, ◌^◌, ◌≤◌, ◌<◌, ℤ, pos, negsuc, neg_ℤ, nat_abs, ◌-ℤ◌, ◌*ℤ◌, ltb, if◌then◌else◌}
use Rattle.std.proofs.Common.{ap, mul-zero, zero-mul, pos_of_ne-zero, arith, ltb-true, ltb-false, lt-ltb, le-ltb}
use Rattle.std.specs.Bool.{beq}
use Rattle.std.proofs.Math.IntN.{zero-*ℤ}
use Rattle.std.specs.Int.Signed.{lt_z}
use Rattle.capture_rules.specs.Doc.Fraction.{signed32, with_sign}

-- ---- Size and sign

pub by_size : (z : ℤ) → z ≡ with_sign (lt_z z (pos 0)) (nat_abs z)
by_size (pos n) = rw (le-ltb n 0 (omega arith))
by_size (negsuc n) = refl

pub size_is : (t : Bool) (n : ℕ) → nat_abs (with_sign t n) ≡ n
size_is false n = refl
size_is true zero = refl
size_is true (suc n) = refl

pub size_above : (z : ℤ) → (z ≡ pos 0 → ⊥) → 0 < nat_abs z
size_above (pos n) f = pos_of_ne-zero (λ e. f (ap pos e))
size_above (negsuc n) f = omega arith

-- A product's size is the product of the sizes, and it is below zero where just one of the two is.
pub product : (s t : Bool) (m n : ℕ) → with_sign s m *ℤ with_sign t n ≡ with_sign (not (beq s t)) (m * n)
product false false m n = refl
product false true m zero = rw mul-zero
product false true m (suc n) = refl
product true false zero n = rw zero-mul
product true false (suc m) n = refl
product true true zero n = rw (zero-*ℤ, zero-mul)
product true true (suc m) zero = rw mul-zero
product true true (suc m) (suc n) = refl

-- ---- Four bytes

-- two's complement: n itself in the lower half, 2^32 less in the upper one
pub signed32_low : (n : ℕ) → n < 2 ^ 31 → signed32 n ≡ pos n
unfolding signed32
signed32_low n h = rw (lt-ltb n (2 ^ 31) h)

pub signed32_high : (n : ℕ) → 2 ^ 31 ≤ n → n < 2 ^ 32 → signed32 n ≡ pos n -ℤ pos (2 ^ 32)
unfolding signed32
signed32_high n h k =
    let e : 2 ^ 32 - n ≡ suc (2 ^ 32 - suc n) = omega arith in
    rw (le-ltb n (2 ^ 31) h, lt-ltb n (2 ^ 32) k, e)

-- what holds of the size in each half holds of the size
size32 : (n : ℕ) (P : ℕ → Type 0) → (n < 2 ^ 31 → P n) → (2 ^ 31 ≤ n → P (2 ^ 32 - n)) → P (nat_abs (signed32 n))
unfolding signed32
size32 n P low high = half (ltb n (2 ^ 31)) refl
  where
    half : (t : Bool) → ltb n (2 ^ 31) ≡ t → P (nat_abs (if t then pos n else neg_ℤ (pos (2 ^ 32 - n))))
    half true e = low (ltb-true n (2 ^ 31) e)
    half false e = rw (size_is true (2 ^ 32 - n)) (high (ltb-false n (2 ^ 31) e))

pub signed32_small : (n : ℕ) → nat_abs (signed32 n) ≤ 2 ^ 31
signed32_small n = size32 n (λ k. k ≤ 2 ^ 31) (λ h. omega arith) (λ h. omega arith)

-- only 0 reads as 0
pub signed32_nonzero : (n : ℕ) → n < 2 ^ 32 → (n ≡ 0 → ⊥) → signed32 n ≡ pos 0 → ⊥
signed32_nonzero n h f e = f (size32 n (λ k. k ≡ 0 → n ≡ 0) (λ l k. k) (λ l k. omega arith) (ap nat_abs e))
