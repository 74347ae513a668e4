-- Euclid's algorithm a turn at a time, and that it gives the greatest common divisor.
use Rattle.std.specs.Prelude.{◌≡◌, refl}
use Rattle.std.proofs.Common.{sym, ◌∙◌, le_refl, le_of_lt}
use Prim.Native.Nat.{ℕ, zero, suc, ◌+◌, ◌%◌, ◌≤◌, ◌<◌, ◌∣◌}
use Rattle.std.proofs.Math.Nat.{mod-lt, le-suc, dvd_refl, dvd-zero, dvd-mod_iff, le_of_dvd}
use native.Mathlib.Omega.{arith}
use Rattle.capture_rules.specs.Doc.Fraction.{gcd_in, gcd}

-- ---- Turns

none_left : (n a : ℕ) → gcd_in n a 0 ≡ a
unfolding gcd_in
none_left zero a = refl
none_left (suc n) a = refl

one_turn : (n a b : ℕ) → 0 < b → gcd_in (suc n) a b ≡ gcd_in n b (a % b)
unfolding gcd_in
one_turn n a zero h = omega arith
one_turn n a (suc b) h = refl

-- To show `P a b g` of two numbers and their greatest common divisor g: show it of any a with 0, whose divisor is a; and show it of a and b from what it
-- says after one turn, of b and `a % b`.
module _
    (P : ℕ → ℕ → ℕ → Type 0)
    (last : (a : ℕ) → P a 0 a)
    (turn : (a b g : ℕ) → 0 < b → P b (a % b) g → P a b g) where
  by_turns : (n a b : ℕ) → b ≤ n → P a b (gcd_in n a b)
  unfolding gcd_in
  by_turns zero a b h =
      let e : b ≡ 0 = omega arith in
      rw e (last a)
  by_turns (suc n) a zero h = last a
  by_turns (suc n) a (suc b) h =
      let k : 0 < suc b = omega arith in
      turn a (suc b) _ k (by_turns n (suc b) (a % suc b) (omega (arith, mod-lt a k)))

  by_gcd : (a b : ℕ) → P a b (gcd a b)
  by_gcd a b = by_turns b a b (le_refl b)

-- as many turns as the second number says are enough
pub enough : (m a b : ℕ) → b ≤ m → gcd_in m a b ≡ gcd a b
enough m a b h = by_gcd (λ a b g. (m : ℕ) → b ≤ m → gcd_in m a b ≡ g) (λ a m h. none_left m a) more a b m h
  where
    more : (a b g : ℕ) → 0 < b → ((m : ℕ) → a % b ≤ m → gcd_in m b (a % b) ≡ g) → (m : ℕ) → b ≤ m → gcd_in m a b ≡ g
    more a b g k ih zero h = omega arith
    more a b g k ih (suc m) h = one_turn m a b k ∙ ih m (omega (arith, mod-lt a k))

pub gcd_turn : (a b : ℕ) → 0 < b → gcd b (a % b) ≡ gcd a b
gcd_turn a b h = sym (enough b b (a % b) (le_of_lt (mod-lt a h))) ∙ (sym (one_turn b a b h) ∙ enough (suc b) a b (le-suc b))

pub gcd_none : (a b : ℕ) → b ≡ 0 → gcd a b ≡ a
gcd_none a b e = rw (e, none_left)

-- ---- The greatest common divisor

pub gcd_pos : (a b : ℕ) → 0 < a + b → 0 < gcd a b
gcd_pos = by_gcd (λ a b g. 0 < a + b → 0 < g) (λ a h. omega arith) (λ a b g h ih k. ih (omega arith))

-- it divides both
pub gcd_divides : (a b : ℕ) → (gcd a b ∣ a) × (gcd a b ∣ b)
gcd_divides = by_gcd (λ a b g. (g ∣ a) × (g ∣ b)) (λ a. (dvd_refl a, dvd-zero a)) (λ a b g h ih. ((dvd-mod_iff g ih.0).0 ih.1, ih.0))

-- what divides both divides it
pub gcd_divided : (a b d : ℕ) → d ∣ a → d ∣ b → d ∣ gcd a b
gcd_divided a b d = by_gcd (λ a b g. d ∣ a → d ∣ b → d ∣ g) (λ a h k. h) (λ a b g h ih j k. ih k ((dvd-mod_iff d k).1 j)) a b

-- so none is greater, where the two are not both 0
pub gcd_greatest : (a b d : ℕ) → 0 < a + b → d ∣ a → d ∣ b → d ≤ gcd a b
gcd_greatest a b d k h j = le_of_dvd (gcd_pos a b k) (gcd_divided a b d h j)
