-- What an input says, line by line.
use Rattle.std.specs.Prelude.{◌≡◌, ℕ, suc, ◌≤◌, ◌<◌, ◌⊎◌, length}
use Rattle.std.proofs.Math.Path.{refl}
use Rattle.std.proofs.Common.{sym, ap, ◌∙◌, arith, inl, inr, length-append}
use Rattle.std.proofs.Math.Option.{Option, none, some}
use mathlib.Core.List.{List, [], ◌∷◌, ◌++◌, head-eq_of_cons-eq}
use borrow.Author.Tests.{le-leb, lt-leb}
use Rattle.rules.specs.Doc.Outcomes.{fine, refused, ◌>>=◌, given}
use Rattle.sheet_rules.specs.Doc.Lines.{lines, Entry, line_text, entry_in}
use Rattle.sheet_rules.specs.Doc.Sheet.{most_lines, entries_from}
use Rattle.sheet_rules.specs.Laws.Lines.{First, first, flat_line}
use Rattle.sheet_rules.specs.Laws.Shape.{Allowed, line_read, line_is, line_flat, line_some}

-- ---- Whether the first line is of the shape

-- bytes that start with a line of the shape
pub record GoodLine (s : List ℕ) : Type 0 where
  pub entry : Entry
  pub rest : List ℕ
  pub allows : Allowed entry
  pub splits : s ≡ line_text entry ++ rest

-- bytes that don't
abbrev pub OtherLine : List ℕ → Type 0
OtherLine s = (e : Entry) (rest : List ℕ) → Allowed e → s ≡ line_text e ++ rest → ⊥

no_line : OtherLine []
no_line e rest h f = omega (arith, line_some e, simp length-append at (ap length f))

other_line : (s : List ℕ) (f : First s) → entry_in f.line ≡ none → OtherLine s
other_line s f g e rest h k =
    let ls : f.line ∷ lines f.rest ≡ line_text e ∷ lines rest = sym f.is ∙ ap lines k ∙ flat_line (line_text e) rest (line_flat e) in
    let same : f.line ≡ line_text e = head-eq_of_cons-eq ls in
    let x : entry_in f.line ≡ some e = rw same (line_read e h) in
    let z : ◌≡◌ {A = ℕ} 0 1 = cc in
    omega arith

pub good_or_other : (s : List ℕ) → GoodLine s ⊎ OtherLine s
good_or_other [] = inr no_line
good_or_other (c ∷ s) = go (first (c ∷ s) (omega arith))
  where
    go : First (c ∷ s) → GoodLine (c ∷ s) ⊎ OtherLine (c ∷ s)
    go f = judge (entry_in f.line) refl
      where
        judge : (o : Option Entry) → entry_in f.line ≡ o → GoodLine (c ∷ s) ⊎ OtherLine (c ∷ s)
        judge none g = inr (other_line (c ∷ s) f g)
        judge (some e) g =
            let l = line_is f.line g in
            inl (record { entry = e; rest = f.rest; allows = l.allows; splits = rw (← l.is) f.splits })

-- ---- What is said from a line on

pub entries_none : (k : ℕ) → entries_from k (lines []) ≡ fine []
unfolding entries_from lines
entries_none k = refl

-- a line of the shape, and then the rest
pub entries_line : (k : ℕ) (e : Entry) (s : List ℕ) → k ≤ most_lines → Allowed e
    → entries_from k (lines (line_text e ++ s)) ≡ (entries_from (suc k) (lines s) >>= λ es. fine (e ∷ es))
unfolding entries_from
entries_line k e s h a = rw (flat_line (line_text e) s (line_flat e), le-leb k most_lines h, line_read e a)

module _ (k : ℕ) (s : List ℕ) (more : 1 ≤ length s) where
  -- line 100,001
  pub entries_many : most_lines < k → entries_from k (lines s) ≡ refused k
  unfolding entries_from
  entries_many h = rw ((first s more).is, lt-leb k most_lines h)

  -- a line of another shape
  pub entries_other : k ≤ most_lines → OtherLine s → entries_from k (lines s) ≡ refused k
  unfolding entries_from
  entries_other h p = rw ((first s more).is, le-leb k most_lines h) (go (first s more) (entry_in (first s more).line) refl)
    where
      go : (f : First s) (o : Option Entry) → entry_in f.line ≡ o
          → (given o k >>= λ e. entries_from (suc k) (lines f.rest) >>= λ es. fine (e ∷ es)) ≡ refused k
      go f none e = refl
      go f (some x) e =
          let l = line_is f.line e in
          absurd (p x f.rest l.allows (rw (← l.is) f.splits))
