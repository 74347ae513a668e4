-- No two answers meet a contract of this crate.
use Rattle.std.specs.Prelude.{◌≡◌, refl, List, ℕ, Option, Result}
use Rattle.std.proofs.Math.Option as math
use Rattle.rules.specs.Doc.Outcomes.{Outcome}
use Rattle.rules.specs.Results.{as_option, option_back}
use Rattle.boxes.specs.Unique.{refusal_result_one}
use Rattle.boxes.specs.declared.refusal.Refusal.{Refusal}
use Rattle.items.specs.Told.{id_of, ids_of}
use Rattle.items.specs.Wanted.{infe_over, iinf_over}

-- an answer is determined by what it says
ids_one : {o : Outcome (math.Option ℕ)} {x y : Result (Option ℕ) Refusal} → ids_of x ≡ o → ids_of y ≡ o → x ≡ y
ids_one e f =
    let same : (v : ℕ) → v ≡ v = λ v. refl in
    refusal_result_one id_of (as_option (λ v. v) (λ v. v) same) (option_back (λ v. v) (λ v. v) same) e f

module _ (body : List ℕ) (w : math.Option ℕ) {x y : Result (Option ℕ) Refusal} where
  -- of `parse_infe`
  pub infe_one : ids_of x ≡ infe_over body w → ids_of y ≡ infe_over body w → x ≡ y
  infe_one e f = ids_one e f

  -- of `parse_iinf`
  pub iinf_one : ids_of x ≡ iinf_over body w → ids_of y ≡ iinf_over body w → x ≡ y
  iinf_one e f = ids_one e f
