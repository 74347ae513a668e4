-- No two answers meet the contract of `read_line`.
use Rattle.std.specs.Prelude.{Option, Some, None, ◌≡◌, refl, ℕ, length, drop}
use Rattle.std.proofs.Common.{sym, ap, ◌∙◌, arith, length-append, length-drop}
use mathlib.Core.List.{List, head-eq_of_cons-eq}
use Rattle.std.proofs.Math.Option.{some}
use Rattle.sheet_rules.specs.Doc.Lines.{lines, Entry, line_text, entry_in}
use Rattle.sheet_rules.specs.Laws.Lines.{flat_line}
use Rattle.sheet_rules.specs.Laws.Shape.{line_read, line_flat}
use Rattle.sheet_line.specs.Shape.{entry, LineTo, LineAt}
use Rattle.sheet_line.specs.declared.Entry as code

module _ (s : List ℕ) {a b n m i j : ℕ} (p : LineTo s a n i) (q : LineTo s b m j) where
  -- both are the first line
  same_text : line_text (entry a n) ≡ line_text (entry b m)
  same_text =
      head-eq_of_cons-eq
      (sym (flat_line (line_text (entry a n)) (drop i s) (line_flat (entry a n)))
      ∙ ap lines (sym p.splits ∙ q.splits)
      ∙ flat_line (line_text (entry b m)) (drop j s) (line_flat (entry b m)))

  same_entry : entry a n ≡ entry b m
  same_entry =
      let x = line_read (entry a n) p.allows in
      let y = line_read (entry b m) q.allows in
      let z : some (entry a n) ≡ some (entry b m) = sym x ∙ ap entry_in same_text ∙ y in
      cc

  same_end : i ≡ j
  same_end =
      let x = simp length-append at (ap length p.splits) in
      let y = simp length-append at (ap length q.splits) in
      omega (arith, x, y, ap length same_text, length-drop i s, length-drop j s, p.inside, q.inside)

pub line_one : (s : List ℕ) (x y : Option code.Entry) → LineAt s x → LineAt s y → x ≡ y
line_one s (Some x) (Some y) p q =
    let e = same_entry s p q in
    let f : x.answer ≡ y.answer = ap (λ (e : Entry). e.answer) e in
    let g : x.length ≡ y.length = ap (λ (e : Entry). e.length) e in
    rw (f, g, same_end s p q)
line_one s (Some x) None p q = absurd (q (entry x.answer x.length) (drop x.end s) p.allows p.splits)
line_one s None (Some y) p q = absurd (p (entry y.answer y.length) (drop y.end s) q.allows q.splits)
line_one s None None p q = refl
