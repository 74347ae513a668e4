-- What an answer of the code says, as the definitions have it: of a `Result` its value, or the number of its error; of an `Option` its value, or none.
use Rattle.std.specs.Prelude.{◌≡◌, refl, ℕ, Result, Ok, Err, Option, Some, None}
use Rattle.std.proofs.Common.{ap}
use Rattle.std.proofs.Math.Option as math
use Rattle.rules.specs.Doc.Outcomes.{Outcome, fine, refused}
use Rattle.rules.specs.Laws.Back.{one}

abbrev pub outcome : {A B E : Type 0} → (E → ℕ) → (A → B) → Result A E → Outcome B
outcome number tell (Ok a) = fine (tell a)
outcome number tell (Err e) = refused (number e)

abbrev pub perhaps : {A B : Type 0} → (A → B) → Option A → math.Option B
perhaps tell None = math.none
perhaps tell (Some a) = math.some (tell a)

-- ---- Where a value can be told back, so can the answer: no two answers say the same

-- with a way back from each value, and from each number
module _ {A B E : Type 0} (number : E → ℕ) (as_error : ℕ → E) (error_back : (e : E) → as_error (number e) ≡ e)
    (tell : A → B) (back : B → A) (same : (a : A) → back (tell a) ≡ a) where
  pub as_result : Outcome B → Result A E
  as_result (fine b) = Ok (back b)
  as_result (refused n) = Err (as_error n)

  pub result_back : (r : Result A E) → as_result (outcome number tell r) ≡ r
  unfolding as_result
  result_back (Ok a) = ap Ok (same a)
  result_back (Err e) = ap Err (error_back e)

  pub result_one : {o : Outcome B} {x y : Result A E} → outcome number tell x ≡ o → outcome number tell y ≡ o → x ≡ y
  result_one e f = one (outcome number tell) as_result result_back e f

module _ {A B : Type 0} (tell : A → B) (back : B → A) (same : (a : A) → back (tell a) ≡ a) where
  pub as_option : math.Option B → Option A
  as_option math.none = None
  as_option (math.some b) = Some (back b)

  pub option_back : (o : Option A) → as_option (perhaps tell o) ≡ o
  unfolding as_option
  option_back None = refl
  option_back (Some a) = ap Some (same a)
