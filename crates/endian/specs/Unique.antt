-- The contract of a load determines its result: no two numbers meet it, of whatever width and in whatever order. No two orders are told alike.
use Rattle.std.specs.Prelude.{◌≡◌, refl, List, ℕ}
use Rattle.std.proofs.Common.{sym, ◌∙◌}
use Rattle.rules.specs.Doc.Bytes.{number_at}
use Rattle.rules.specs.Doc.Endian.{number_in}
use Rattle.rules.specs.Doc.Endian as rules
use Rattle.endian.specs.Told.{endian_of}
use Rattle.endian.specs.declared.Endian.{Endian}
use Rattle.endian.specs.declared.Endian.TheVariants.{Big, Little}

pub load_one : (s : List ℕ) (from n : ℕ) {x y : ℕ} → x ≡ number_at s from n → y ≡ number_at s from n → x ≡ y
load_one s from n e f = e ∙ sym f

-- of the loads of `Endian`
pub load_in_one : (order : Endian) (s : List ℕ) (from n : ℕ) {x y : ℕ}
    → x ≡ number_in (endian_of order) s from n → y ≡ number_in (endian_of order) s from n → x ≡ y
load_in_one order s from n e f = e ∙ sym f

pub as_endian : rules.Endian → Endian
as_endian rules.big = Big
as_endian rules.little = Little

pub endian_back : (order : Endian) → as_endian (endian_of order) ≡ order
unfolding as_endian
endian_back Big = refl
endian_back Little = refl
