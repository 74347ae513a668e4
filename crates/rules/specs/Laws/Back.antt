-- What the code's answers tell, told back.
use Rattle.std.specs.Prelude.{◌≡◌}
use Rattle.std.proofs.Common.{sym, ap, ◌∙◌}

-- what can be told back has one answer for each thing told
pub one : {A B : Type 0} (tell : A → B) (back : B → A) → ((x : A) → back (tell x) ≡ x) → {o : B} {x y : A} → tell x ≡ o → tell y ≡ o → x ≡ y
one tell back same {o} {x} {y} e f = sym (same x) ∙ (ap back (e ∙ sym f) ∙ same y)
