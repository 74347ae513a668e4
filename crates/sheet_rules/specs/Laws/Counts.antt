-- Counts and totals with one entry more, and how large they can be.
use Rattle.std.specs.Prelude.{◌≡◌, refl, ℕ, suc, ◌+◌, ◌*◌, ◌≤◌, Bool, true, false, List, [], ◌∷◌, ◌++◌, length, ltb, eqb, if◌then◌else◌}
use Rattle.std.proofs.Common.{sym, ◌∙◌, arith, eq-eqb, ne_eqb, ltb-true, ltb-false, le-ltb}
use Rattle.rules.specs.Doc.Lists.{only}
use Rattle.rules.specs.Laws.Rows.{by_test}
use Rattle.sheet_rules.specs.Doc.Lines.{Entry}
use Rattle.sheet_rules.specs.Doc.Sheet.{files_with, sum, larger, largest_of, lengths}
use Rattle.sheet_rules.specs.Laws.Shape.{Allowed}

-- ---- Files

-- one more in front
pub files_front : (a : ℕ) (e : Entry) (es : List Entry) → files_with a (e ∷ es) ≡ (if eqb e.answer a then suc (files_with a es) else files_with a es)
unfolding files_with only
files_front a e es = go (eqb e.answer a)
  where
    go : (t : Bool) → length (if t then e ∷ only (λ e. eqb e.answer a) es else only (λ e. eqb e.answer a) es)
        ≡ (if t then suc (length (only (λ e. eqb e.answer a) es)) else length (only (λ e. eqb e.answer a) es))
    go true = refl
    go false = refl

files_append : (a : ℕ) (es fs : List Entry) → files_with a (es ++ fs) ≡ files_with a es + files_with a fs
unfolding files_with only
files_append a [] fs = omega arith
files_append a (e ∷ es) fs = rw (files_front a e (es ++ fs), files_front a e es) (go (eqb e.answer a) (files_append a es fs))
  where
    go : (t : Bool) → files_with a (es ++ fs) ≡ files_with a es + files_with a fs
        → (if t then suc (files_with a (es ++ fs)) else files_with a (es ++ fs)) ≡ (if t then suc (files_with a es) else files_with a es) + files_with a fs
    go true h = omega (arith, h)
    go false h = h

-- one more behind
pub files_same : (e : Entry) (es : List Entry) → files_with e.answer (es ++ (e ∷ [])) ≡ files_with e.answer es + 1
unfolding files_with only
files_same e es = rw (files_append e.answer es (e ∷ []), files_front e.answer e [], eq-eqb e.answer e.answer refl)

pub files_other : (a : ℕ) (e : Entry) (es : List Entry) → (e.answer ≡ a → ⊥) → files_with a (es ++ (e ∷ [])) ≡ files_with a es
unfolding files_with only
files_other a e es h = rw (files_append a es (e ∷ []), files_front a e [], ne_eqb e.answer a h) (omega arith)

-- No answer has more files than there are.
pub files_most : (a : ℕ) (es : List Entry) → files_with a es ≤ length es
unfolding files_with only
files_most a [] = omega arith
files_most a (e ∷ es) = rw (files_front a e es) (go (eqb e.answer a) (files_most a es))
  where
    go : (t : Bool) → files_with a es ≤ length es → (if t then suc (files_with a es) else files_with a es) ≤ suc (length es)
    go true h = omega (arith, h)
    go false h = omega (arith, h)

-- ---- Bytes, and the largest

pub bytes_more : (es : List Entry) (e : Entry) → sum (lengths (es ++ (e ∷ []))) ≡ sum (lengths es) + e.length
unfolding sum lengths
bytes_more [] e = omega arith
bytes_more (x ∷ es) e = omega (arith, bytes_more es e)

larger_left : (a b : ℕ) → b ≤ a → larger a b ≡ a
unfolding larger
larger_left a b h = rw (le-ltb a b h)

larger_right : (a b : ℕ) → a ≤ b → larger a b ≡ b
unfolding larger
larger_right a b h = go (ltb a b) refl
  where
    go : (t : Bool) → ltb a b ≡ t → (if t then b else a) ≡ b
    go true e = refl
    go false e = omega (arith, ltb-false a b e)

larger_assoc : (a b c : ℕ) → larger a (larger b c) ≡ larger (larger a b) c
larger_assoc a b c = go (ltb a b) refl (ltb b c) refl
  where
    go : (t : Bool) → ltb a b ≡ t → (u : Bool) → ltb b c ≡ u → larger a (larger b c) ≡ larger (larger a b) c
    go true e true f =
        let p = ltb-true a b e in
        let q = ltb-true b c f in
        rw (larger_right b c (omega arith), larger_right a b (omega arith), larger_right b c (omega arith), larger_right a c (omega arith))
    go true e false f = rw (larger_left b c (ltb-false b c f), larger_right a b (omega (arith, ltb-true a b e))) (sym (larger_left b c (ltb-false b c f)))
    go false e true f = rw (larger_right b c (omega (arith, ltb-true b c f)), larger_left a b (ltb-false a b e))
    go false e false f =
        let p = ltb-false a b e in
        let q = ltb-false b c f in
        rw (larger_left b c q, larger_left a b p) (sym (larger_left a c (omega arith)))

pub largest_more : (es : List Entry) (e : Entry) → largest_of (lengths (es ++ (e ∷ []))) ≡ larger (largest_of (lengths es)) e.length
unfolding largest_of lengths
largest_more [] e = larger_left e.length 0 (omega arith) ∙ sym (larger_right 0 e.length (omega arith))
largest_more (x ∷ es) e = rw (largest_more es e) (larger_assoc x.length (largest_of (lengths es)) e.length)

-- ---- How large they can be

abbrev pub AllAllowed : List Entry → Type 0
AllAllowed [] = Unit
AllAllowed (e ∷ es) = Allowed e × AllAllowed es

pub allowed_more : (es : List Entry) (e : Entry) → AllAllowed es → Allowed e → AllAllowed (es ++ (e ∷ []))
allowed_more [] e p q = (q, tt)
allowed_more (x ∷ es) e p q = (p.0, allowed_more es e p.1 q)

pub bytes_most : (es : List Entry) → AllAllowed es → sum (lengths es) ≤ 65535 * length es
unfolding sum lengths
bytes_most [] p = omega arith
bytes_most (e ∷ es) p = omega (arith, p.0.length, bytes_most es p.1)

larger_most : (m a b : ℕ) → a ≤ m → b ≤ m → larger a b ≤ m
unfolding larger
larger_most m a b h k = by_test (λ (n : ℕ). n ≤ m) (ltb a b) (λ e. k) (λ e. h)

pub largest_most : (es : List Entry) → AllAllowed es → largest_of (lengths es) ≤ 65535
unfolding largest_of lengths
largest_most [] p = omega arith
largest_most (e ∷ es) p = larger_most 65535 e.length (largest_of (lengths es)) p.0.length (largest_most es p.1)
