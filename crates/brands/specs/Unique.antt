-- No two answers meet a contract of this crate.
use Rattle.std.specs.Prelude.{◌≡◌, refl, Bool, List, ℕ, Result}
use Rattle.std.proofs.Common.{sym, ◌∙◌}
use Rattle.rules.specs.Doc.Ftyp.{brand_test}
use Rattle.rules.specs.Doc.Heif.{is_heif}
use Rattle.boxes.specs.Unique.{refusal_result_one}
use Rattle.boxes.specs.declared.refusal.Refusal.{Refusal}
use Rattle.brands.specs.Told.{ftyp_of}

-- of `parse_ftyp`
pub ftyp_one : (body : List ℕ) {x y : Result (Unit {0}) Refusal} → ftyp_of x ≡ brand_test body → ftyp_of y ≡ brand_test body → x ≡ y
ftyp_one body e f = refusal_result_one (λ u. u) (λ u. u) (λ u. refl) e f

-- of `is_heif`
pub heif_one : (s : List ℕ) {x y : Bool} → x ≡ is_heif s → y ≡ is_heif s → x ≡ y
heif_one s e f = e ∙ sym f
