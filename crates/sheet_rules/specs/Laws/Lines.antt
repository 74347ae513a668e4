-- The lines of an input, one at a time.
use Rattle.std.specs.Prelude.{◌≡◌, refl, ℕ, ◌≤◌, Bool, true, false, List, [], ◌∷◌, ◌++◌, map, length, eqb, if◌then◌else◌}
use Rattle.std.proofs.Common.{ap, arith, append_assoc}
use Rattle.rules.specs.Doc.Lists.{any, each}
use Rattle.rules.specs.Doc.Listing.{newline}
use Rattle.rules.specs.Laws.Rows.{neither}
use Rattle.sheet_rules.specs.Doc.Lines.{on_first, onto, lines}
use Rattle.sheet_rules.specs.Laws.Rows.{NoNewline, Flat}

-- ---- A line that ends in its only newline

whole_line : (l s : List ℕ) → NoNewline l → lines (l ++ newline ++ s) ≡ (l ++ newline) ∷ lines s
unfolding lines onto on_first any
whole_line [] s p = refl
whole_line (c ∷ l) s p =
    let (x, y) = neither (eqb c 10) (any (λ c. eqb c 10) l) p in
    rw (x, whole_line l s y)

pub flat_line : (l s : List ℕ) → Flat l → lines (l ++ s) ≡ l ∷ lines s
flat_line l s f = rw f.is (whole_line f.front s f.flat)

-- such lines one behind the other
pub each_line : {A : Type 0} (text : A → List ℕ) → ((x : A) → Flat (text x)) → (xs : List A) (s : List ℕ)
    → lines (each text xs ++ s) ≡ map text xs ++ lines s
unfolding each
each_line text p [] s = refl
each_line text p (x ∷ xs) s =
    rw (append_assoc, flat_line (text x) (each text xs ++ s) (p x)) (ap (λ (ls : List (List ℕ)). text x ∷ ls) (each_line text p xs s))

-- ---- Any first line

pub record First (s : List ℕ) : Type 0 where
  pub line : List ℕ
  pub rest : List ℕ
  pub splits : s ≡ line ++ rest
  pub is : lines s ≡ line ∷ lines rest

first_from : (c : ℕ) (s : List ℕ) → First (c ∷ s)
unfolding lines onto on_first
first_from c [] = record { line = c ∷ []; rest = []; splits = refl; is = go (eqb c 10) }
  where
    go : (t : Bool) → (if t then (c ∷ []) ∷ [] else ((c ∷ []) ∷ [])) ≡ (c ∷ []) ∷ []
    go true = refl
    go false = refl
first_from c (d ∷ s) = go (eqb c 10) refl (first_from d s)
  where
    go : (t : Bool) → eqb c 10 ≡ t → First (d ∷ s) → First (c ∷ d ∷ s)
    go true e f = record { line = c ∷ []; rest = d ∷ s; splits = refl; is = rw e }
    go false e f = record { line = c ∷ f.line; rest = f.rest; splits = ap (λ (l : List ℕ). c ∷ l) f.splits; is = rw (f.is, e) }

-- Whatever the bytes are, if there are any, they have a first line.
pub first : (s : List ℕ) → 1 ≤ length s → First s
first [] h = absurd (omega (arith, h))
first (c ∷ s) h = first_from c s
