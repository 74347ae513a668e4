-- A fraction in lowest terms has the value that was given, no common divisor but 1, a denominator above zero, and neither part is larger than before.
use Rattle.std.specs.Prelude.{◌≡◌, refl, Bool, true, false, not, ℕ, ◌*◌, ◌/◌, ◌^◌, ◌≤◌, ◌<◌, ℤ, ◌*ℤ◌}
use Rattle.std.proofs.Common.{sym, ap₂, ◌∙◌, le_trans, le-div_iff_mul-le, arith}
use Rattle.std.proofs.Math.Path.{ap}
use Rattle.std.specs.Bool.{beq}
use Rattle.std.specs.Int.{◌∣◌}
use Rattle.std.proofs.Math.Nat.{one-mul, le_of_dvd, div-le_self, div-mul_cancel, mul-dvd-mul_right, dvd_of_mul-dvd-mul_right, eq-one_of_dvd-one}
use Rattle.std.proofs.Math.IntN.{pos, nat_abs}
use Rattle.std.specs.Int.Signed.{lt_z}
use Rattle.capture_rules.specs.Doc.Fraction.{Fraction, signed32, gcd, with_sign, opposite, lowest}
use Rattle.capture_rules.specs.Laws.Euclid.{gcd_pos, gcd_divides, gcd_divided}
use Rattle.capture_rules.specs.Laws.Signs.{by_size, size_is, size_above, product, signed32_small}

-- by the sizes, their divisor, the sign and the numerator, as code computes them one after another
pub lowest_by : (x y : ℤ) {n d g : ℕ} {t : Bool} {z : ℤ}
    → n ≡ nat_abs x → d ≡ nat_abs y → g ≡ gcd n d → t ≡ opposite x y → z ≡ with_sign t (n / g)
    → ◌≡◌ {A = Fraction} (record { num = z; den = d / g }) (lowest x y)
unfolding lowest
lowest_by x y a b e s f = rw (f, e, a, b, s)

-- a sign below goes above
sign_moved : (s t : Bool) → not (beq (not (beq s t)) t) ≡ not (beq s false)
sign_moved true true = refl
sign_moved true false = refl
sign_moved false true = refl
sign_moved false false = refl

-- n over d crosswise with a over b, which are g times as large
crosswise : (s t : Bool) (n d g : ℕ) {a b : ℕ} → n * g ≡ a → d * g ≡ b
    → with_sign (not (beq s t)) n *ℤ with_sign t b ≡ with_sign s a *ℤ with_sign false d
crosswise s t n d g {a} {b} e f =
    let k : n * b ≡ a * d = rw (← e, ← f) (omega arith) in
    product (not (beq s t)) t n b ∙ (ap₂ with_sign (sign_moved s t) k ∙ sym (product s false a d))

module _ (x y : ℤ) where
  abbrev g : ℕ
  g = gcd (nat_abs x) (nat_abs y)

  num_whole : nat_abs x / g * g ≡ nat_abs x
  num_whole = div-mul_cancel g (gcd_divides (nat_abs x) (nat_abs y)).0

  den_whole : nat_abs y / g * g ≡ nat_abs y
  den_whole = div-mul_cancel g (gcd_divides (nat_abs x) (nat_abs y)).1

  -- num / den is x / y
  pub same_value : (lowest x y).num *ℤ y ≡ x *ℤ pos (lowest x y).den
  unfolding lowest
  same_value =
      let n = nat_abs x / g in
      let d = nat_abs y / g in
      ap (λ z. with_sign (opposite x y) n *ℤ z) (by_size y)
      ∙ (crosswise (lt_z x (pos 0)) (lt_z y (pos 0)) n d g num_whole den_whole ∙ ap (λ z. z *ℤ pos d) (sym (by_size x)))

  pub num_small : nat_abs (lowest x y).num ≤ nat_abs x
  unfolding lowest
  num_small = rw size_is (div-le_self (nat_abs x) g)

  pub den_small : (lowest x y).den ≤ nat_abs y
  unfolding lowest
  den_small = div-le_self (nat_abs y) g

  module _ (h : y ≡ pos 0 → ⊥) where
    pub divisor_above : 0 < g
    divisor_above = gcd_pos (nat_abs x) (nat_abs y) (omega (arith, size_above y h))

    pub den_above : 0 < (lowest x y).den
    unfolding lowest
    den_above =
        let k : g ≤ nat_abs y = le_of_dvd (size_above y h) (gcd_divides (nat_abs x) (nat_abs y)).1 in
        (le-div_iff_mul-le divisor_above).1 (rw one-mul k)

    -- no number above 1 divides both
    pub no_common : (d : ℕ) → d ∣ nat_abs (lowest x y).num → d ∣ (lowest x y).den → d ≡ 1
    unfolding lowest
    no_common d j k =
        let a : d * g ∣ nat_abs x = rw num_whole at (mul-dvd-mul_right d (rw size_is at j) g) in
        let b : d * g ∣ nat_abs y = rw den_whole at (mul-dvd-mul_right d k g) in
        let c : d * g ∣ 1 * g = rw one-mul (gcd_divided (nat_abs x) (nat_abs y) (d * g) a b) in
        eq-one_of_dvd-one (dvd_of_mul-dvd-mul_right d divisor_above c)

-- of two numbers of four bytes
module _ (m n : ℕ) where
  pub num_small32 : nat_abs (lowest (signed32 m) (signed32 n)).num ≤ 2 ^ 31
  num_small32 = le_trans (num_small (signed32 m) (signed32 n)) (signed32_small m)

  pub den_small32 : (lowest (signed32 m) (signed32 n)).den ≤ 2 ^ 31
  den_small32 = le_trans (den_small (signed32 m) (signed32 n)) (signed32_small n)
