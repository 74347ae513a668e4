-- No two answers meet a contract of this crate.
use Rattle.std.specs.Prelude.{◌≡◌, refl, ℕ, ℤ}
use Rattle.std.proofs.Common.{sym, ◌∙◌}
use Rattle.rules.specs.Laws.Back.{one}
use Rattle.capture_rules.specs.Doc.Fraction as doc
use Rattle.fraction.specs.Told.{fraction_of}
use Rattle.fraction.specs.declared.Fraction.{Fraction}

-- of `signed32`
pub signed32_one : (n : ℕ) {x y : ℤ} → x ≡ doc.signed32 n → y ≡ doc.signed32 n → x ≡ y
signed32_one n e f = e ∙ sym f

pub as_fraction : doc.Fraction → Fraction
as_fraction f = record { num = f.num; den = f.den }

pub fraction_back : (x : Fraction) → as_fraction (fraction_of x) ≡ x
unfolding as_fraction
fraction_back x = refl

-- of `lowest`
pub lowest_one : (num den : ℤ) {x y : Fraction} → fraction_of x ≡ doc.lowest num den → fraction_of y ≡ doc.lowest num den → x ≡ y
lowest_one num den e f = one fraction_of as_fraction fraction_back e f
