-- The test whether bytes are the same.
use Rattle.std.specs.Prelude.{◌≡◌, refl, ℕ, true, List, [], ◌∷◌, eqb}
use Rattle.std.proofs.Common.{sym, true≢false, eqb-true, eq-eqb}
use Rattle.rules.specs.Doc.Lists.{same}
use Rattle.rules.specs.Laws.Rows.{both_true}

pub same_is : (a b : List ℕ) → same a b ≡ true → a ≡ b
unfolding same
same_is [] [] e = refl
same_is [] (y ∷ b) e = absurd (true≢false (sym e))
same_is (x ∷ a) [] e = absurd (true≢false (sym e))
same_is (x ∷ a) (y ∷ b) e =
    let (p, q) = both_true (eqb x y) (same a b) e in
    rw (eqb-true x y p, same_is a b q)

pub same_self : (a : List ℕ) → same a a ≡ true
unfolding same
same_self [] = refl
same_self (x ∷ a) = rw (eq-eqb x x refl) (same_self a)
