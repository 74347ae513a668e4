-- The header of a block, case by case.
use Rattle.std.specs.Prelude.{◌≡◌, refl, List, ℕ, ◌≤◌, ◌<◌, length, eqb}
use Rattle.std.proofs.Math.Path.{sym}
use Rattle.std.proofs.Common.{◌∙◌}
use native.Mathlib.Omega.{arith}
use borrow.Author.Tests.{le-leb, lt-leb, eq-eqb, ne_eqb}
use Rattle.rules.specs.Doc.Outcomes.{Outcome, fine, refused, ◌>>=◌, require}
use Rattle.rules.specs.Doc.Bytes.{number_at}
use Rattle.rules.specs.Doc.Endian.{Endian, big, little, number_in}
use Rattle.capture_rules.specs.Doc.Header.{II, MM, Header, order_of, header}

-- the header, once its order is known
unfoldable pub header_in : Endian → List ℕ → Outcome Header
header_in e b = require (eqb (number_in e b 2 2) 42) 34 >>= λ u. fine (record { order = e; first = number_in e b 4 4 })

-- the letters as the code has them
II-is : II ≡ 0x4949
unfolding number_at
II-is = refl

MM-is : MM ≡ 0x4d4d
unfolding number_at
MM-is = refl

module _ (b : List ℕ) where
  pub header_short : length b < 8 → refused 34 ≡ header b
  unfolding header
  header_short h = rw (lt-leb 8 (length b) h)

  -- by the two letters that stand first
  module _ (h : 8 ≤ length b) {letters : ℕ} (is : letters ≡ number_at b 0 2) where
    pub header_little : letters ≡ 0x4949 → header_in little b ≡ header b
    unfolding header header_in order_of
    header_little e = rw (le-leb 8 (length b) h, ← is, eq-eqb letters II (e ∙ sym II-is))

    pub header_big : letters ≡ 0x4d4d → header_in big b ≡ header b
    unfolding header header_in order_of
    header_big e =
        let o : letters ≡ II → ⊥ = λ f. let z : letters ≡ 0x4949 = f ∙ II-is in omega arith in
        rw (le-leb 8 (length b) h, ← is, ne_eqb letters II o, eq-eqb letters MM (e ∙ sym MM-is))

    pub header_other : (letters ≡ 0x4949 → ⊥) → (letters ≡ 0x4d4d → ⊥) → refused 34 ≡ header b
    unfolding header order_of
    header_other i m = rw (le-leb 8 (length b) h, ← is, ne_eqb letters II (λ e. i (e ∙ II-is)), ne_eqb letters MM (λ e. m (e ∙ MM-is)))
