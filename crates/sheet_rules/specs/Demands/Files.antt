-- The files of all answers sum to the total.
use Rattle.std.specs.Prelude.{◌≡◌, refl, ℕ, zero, suc, ◌+◌, ◌≤◌, ◌<◌, Bool, true, false, List, [], ◌∷◌, map, ltb, eqb, if◌then◌else◌}
use Rattle.std.proofs.Common.{ap, ◌∙◌, arith, ne_eqb, eqb-true, ltb-false}
use Rattle.std.proofs.lemmas.Bool.{eqb-false}
use Rattle.rules.specs.Doc.Outcomes.{fine}
use Rattle.rules.specs.Doc.Lists.{only}
use Rattle.rules.specs.Doc.Bytes.{positions}
use Rattle.sheet_rules.specs.Doc.Lines.{Entry}
use Rattle.sheet_rules.specs.Doc.Sheet.{entries, files_with, Count, count_of, counts, has_files, occurred, sum, totals}
use Rattle.sheet_rules.specs.Laws.Counts.{files_front, AllAllowed}
use Rattle.sheet_rules.specs.Laws.Read.{read}

-- the files of all counts
unfoldable pub files_of : List Count → ℕ
files_of cs = sum (map (λ (c : Count). c.files) cs)

-- an answer without files adds nothing
pub occurred_files : (cs : List Count) → files_of (occurred cs) ≡ files_of cs
unfolding files_of occurred only sum has_files
occurred_files [] = refl
occurred_files (c ∷ cs) = go (ltb 0 c.files) refl (occurred_files cs)
  where
    go : (t : Bool) → ltb 0 c.files ≡ t → files_of (occurred cs) ≡ files_of cs
        → files_of (if t then c ∷ occurred cs else occurred cs) ≡ c.files + files_of cs
    go true e h = omega (arith, h)
    go false e h = omega (arith, h, ltb-false 0 c.files e)

-- ---- One entry more is one file more, of its own answer

abbrev counts_from : List Entry → ℕ → ℕ → List Count
counts_from es p n = map (count_of es) (positions p n)

-- the answers from p on are others
after : (e : Entry) (es : List Entry) (p n : ℕ) → e.answer < p → files_of (counts_from (e ∷ es) p n) ≡ files_of (counts_from es p n)
unfolding files_of sum positions count_of
after e es p zero h = refl
after e es p (suc n) h = rw (files_front p e es, ne_eqb e.answer p (λ z. omega arith)) (omega (arith, after e es (suc p) n (omega arith)))

among : (e : Entry) (es : List Entry) (p n : ℕ) → p ≤ e.answer → e.answer < p + n
    → files_of (counts_from (e ∷ es) p n) ≡ suc (files_of (counts_from es p n))
unfolding files_of sum positions count_of
among e es p zero h k = absurd (omega arith)
among e es p (suc n) h k = rw (files_front p e es) (go (eqb e.answer p) refl (λ q. among e es (suc p) n q (omega arith)))
  where
    go : (t : Bool) → eqb e.answer p ≡ t
        → (suc p ≤ e.answer → files_of (counts_from (e ∷ es) (suc p) n) ≡ suc (files_of (counts_from es (suc p) n)))
        → (if t then suc (files_with p es) else files_with p es) + files_of (counts_from (e ∷ es) (suc p) n)
        ≡ suc (files_with p es + files_of (counts_from es (suc p) n))
    go true f ih = omega (arith, after e es (suc p) n (omega (arith, eqb-true e.answer p f)))
    go false f ih =
        let z = eqb-false e.answer p f in
        omega (arith, ih (omega (arith, z)))

none_from : (p n : ℕ) → files_of (counts_from [] p n) ≡ 0
unfolding files_of sum positions count_of files_with only
none_from p zero = refl
none_from p (suc n) = omega (arith, none_from (suc p) n)

-- ---- All of them

pub files_sum : (es : List Entry) → AllAllowed es → files_of (counts es) ≡ (totals es).files
unfolding counts totals
files_sum [] p = none_from 0 100
files_sum (e ∷ es) p = among e es 0 100 (omega arith) (omega (arith, p.0.answer)) ∙ ap suc (files_sum es p.1)

-- Of any input that is not refused, the files of the answers that are printed sum to the total that is printed.
pub printed_files_sum : (input : List ℕ) {es : List Entry} → entries input ≡ fine es → files_of (occurred (counts es)) ≡ (totals es).files
printed_files_sum input {es} e = occurred_files (counts es) ∙ files_sum es (read input e).allows
