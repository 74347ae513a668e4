-- Input that was read is the lines of what it says, one behind the other, each allowed, and not too many.
use Rattle.std.specs.Prelude.{◌≡◌, refl, ℕ, zero, suc, ◌+◌, ◌*◌, ◌≤◌, Bool, true, false, ◌⊎◌, length, leb}
use Rattle.std.proofs.Common.{sym, ◌∙◌, arith, inl, inr, length-append, leb-true, leb-false}
use Rattle.std.proofs.Math.Path.{ap}
use mathlib.Core.List.{List, [], ◌∷◌, ◌++◌}
use Rattle.rules.specs.Doc.Outcomes.{fine}
use Rattle.rules.specs.Doc.Lists.{each}
use Rattle.rules.specs.Laws.Rows.{apart, bind_fine}
use Rattle.sheet_rules.specs.Doc.Lines.{lines, Entry, line_text}
use Rattle.sheet_rules.specs.Doc.Sheet.{most_lines, entries_from, entries}
use Rattle.sheet_rules.specs.Laws.Shape.{line_some, line_limit}
use Rattle.sheet_rules.specs.Laws.Entries.{GoodLine, OtherLine, good_or_other, entries_none, entries_line, entries_many, entries_other}
use Rattle.sheet_rules.specs.Laws.Counts.{AllAllowed}

pub record Read (k : ℕ) (s : List ℕ) (es : List Entry) : Type 0 where
  pub splits : s ≡ each line_text es
  pub allows : AllAllowed es
  pub few : k + length es ≤ suc most_lines

read_none : (k : ℕ) {es : List Entry} → k ≤ suc most_lines → entries_from k (lines []) ≡ fine es → Read k [] es
unfolding each
read_none k {es} h e =
    let z : [] ≡ es = cc (entries_none k) in
    rw (← z) (record { splits = refl; allows = tt; few = omega arith })

module _ (k : ℕ) (s : List ℕ) (more : 1 ≤ length s) (few : k ≤ most_lines) {es : List Entry} (e : entries_from k (lines s) ≡ fine es) where
  read_other : OtherLine s → ⊥
  read_other p = apart (sym e ∙ entries_other k s more few p)

  read_good : (g : GoodLine s) → ((es : List Entry) → entries_from (suc k) (lines g.rest) ≡ fine es → Read (suc k) g.rest es) → Read k s es
  unfolding each
  read_good g next =
      let line = entries_line k g.entry g.rest few g.allows in
      let (fs, p, q) = bind_fine (entries_from (suc k) (lines g.rest)) (λ fs. fine (g.entry ∷ fs)) (sym e ∙ rw (← g.splits) at line) in
      let r = next fs (sym p) in
      let z : es ≡ g.entry ∷ fs = cc in
      rw z (record { splits = g.splits ∙ ap (λ (t : List ℕ). line_text g.entry ++ t) r.splits; allows = (g.allows, r.allows); few = omega (arith, r.few) })

read_to : (n k : ℕ) (s : List ℕ) → length s ≤ n → k ≤ suc most_lines → (es : List Entry) → entries_from k (lines s) ≡ fine es → Read k s es
read_to zero k [] h few es e = read_none k few e
read_to zero k (c ∷ s) h few es e = absurd (omega (arith, h))
read_to (suc n) k [] h few es e = read_none k few e
read_to (suc n) k (c ∷ s) h few es e = go (leb k most_lines) refl (good_or_other (c ∷ s)) (λ s'. read_to n (suc k) s')
  where
    go : (t : Bool) → leb k most_lines ≡ t → GoodLine (c ∷ s) ⊎ OtherLine (c ∷ s)
        → ((s' : List ℕ) → length s' ≤ n → suc k ≤ suc most_lines → (es : List Entry) → entries_from (suc k) (lines s') ≡ fine es → Read (suc k) s' es)
        → Read k (c ∷ s) es
    go false f o next = absurd (apart (sym e ∙ entries_many k (c ∷ s) (omega arith) (leb-false k most_lines f)))
    go true f (inr p) next = absurd (read_other k (c ∷ s) (omega arith) (leb-true k most_lines f) e p)
    go true f (inl g) next =
        let l = leb-true k most_lines f in
        let n = ap length g.splits in
        let m = length-append (line_text g.entry) g.rest in
        read_good k (c ∷ s) (omega arith) l e g (next g.rest (omega (arith, line_some g.entry)) (omega arith))

pub read : (s : List ℕ) {es : List Entry} → entries s ≡ fine es → Read 1 s es
unfolding entries
read s e = read_to (length s) 1 s (omega arith) (omega arith) _ e

-- So many lines have at most so many bytes.
pub lines_limit : (es : List Entry) → AllAllowed es → length (each line_text es) ≤ 23 * length es
unfolding each
lines_limit [] p = omega arith
lines_limit (e ∷ es) p = rw (length-append (line_text e) (each line_text es)) (omega (arith, line_limit e p.0, lines_limit es p.1))
