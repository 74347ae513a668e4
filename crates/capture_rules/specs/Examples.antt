-- Fractions in lowest terms, one list with one claim. The checker computes them.
-- No axiom and no premise is used.
use Rattle.std.specs.Prelude.{ℕ, ◌^◌, Bool, ◌&&◌, List, [], ◌∷◌, ℤ, pos, neg_ℤ, T, eqb}
use Rattle.std.specs.Int.Signed.{le_z}
use Rattle.rules.specs.Cases.{every}
use Rattle.capture_rules.specs.Doc.Fraction.{Fraction, signed32, gcd_in, lowest}

-- what four bytes above and four bytes below read as, and their fraction
pub record Example : Type 0 where
  pub above : ℕ
  pub below : ℕ
  pub fraction : Fraction

unfoldable pub gives : ℕ → ℕ → ℤ → ℕ → Example
gives above below num den = record { above = above; below = below; fraction = record { num = num; den = den } }

-- -2/4 and 2/-4 are both -1/2, 0/-5 is 0/1, and -2^31/-1 is 2^31/1, whose numerator 32 bits don't hold
unfoldable pub examples : List Example
examples =
    gives 0xfffffffe 0x00000004 (neg_ℤ (pos 1)) 2
    ∷ gives 0x00000002 0xfffffffc (neg_ℤ (pos 1)) 2
    ∷ gives 0x00000000 0xfffffffb (pos 0) 1
    ∷ gives 0x80000000 0xffffffff (pos (2 ^ 31)) 1
    ∷ []

-- the same numerator and the same denominator
unfoldable pub equal : Fraction → Fraction → Bool
equal f g = le_z f.num g.num && le_z g.num f.num && eqb f.den g.den

unfoldable pub right : Example → Bool
right e = equal (lowest (signed32 e.above) (signed32 e.below)) e.fraction

pub all_examples : T (every right examples)
unfolding every right equal examples gives signed32 gcd_in lowest
all_examples = tt
