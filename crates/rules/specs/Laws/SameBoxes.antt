-- Images of one length that agree on the bytes consulted have the same headers there, and the same boxes walked, at any level.
use Rattle.std.specs.Prelude.{◌≡◌, ℕ, ◌+◌, ◌-◌, ◌≤◌, Bool, List, [], ◌∷◌, ◌++◌, length, ltb, eqb, if◌then◌else◌}
use Rattle.std.proofs.Math.Path.{refl, sym, ap}
use Rattle.std.proofs.Common.{ap₂, ◌∙◌}
use native.Mathlib.Omega.{arith}
use Rattle.std.proofs.Math.Bool.{true, false}
use Rattle.std.proofs.Math.Option.{Option, none, some}
use Rattle.std.proofs.Math.Dec.{leb}
use borrow.Author.Tests.{ltb-false}
use Rattle.rules.specs.Doc.Outcomes.{Outcome, fine, refused, ◌>>=◌}
use Rattle.rules.specs.Doc.Lists.{only, each}
use Rattle.rules.specs.Doc.Bytes.{number_at, positions, bytes_in}
use Rattle.rules.specs.Doc.Walks.{Step, over, met, run}
use Rattle.rules.specs.Doc.Headers.{Header, header_of, header_at, body_size, Box, box_with}
use Rattle.rules.specs.Doc.Levels.{Level, tested, said, decided, box_step, level_step, boxes}
use Rattle.rules.specs.Doc.Consulted.{span_bytes, box_bytes, cut_bytes, boxes_bytes, Agree}
use Rattle.rules.specs.Laws.Headers.{none_short, none_long, some_long, some_short}
use Rattle.rules.specs.Laws.Agreement.{agree_left, agree_right, Range, range_of, number_same, bytes_same}
use Rattle.rules.specs.Laws.SameWalks.{step_bytes, run_same}

-- ---- A header

-- what a look for a header reads: its bytes, or those present of a cut one
unfoldable header_bytes : ℕ → ℕ → Option Header → List ℕ
header_bytes n at none = positions at (n - at)
header_bytes n at (some h) = positions h.start h.width

module _ (a b : List ℕ) (n at : ℕ) where
  abbrev header_from : List ℕ → Option Header
  header_from s = header_of n at (number_at s at 4) (number_at s (at + 4) 4) (number_at s (at + 8) 8)

  -- in the first k bytes there stand the size and the type
  module _ (k : ℕ) (r : Range a b at (at + k)) where
    size_same : 4 ≤ k → number_at a at 4 ≡ number_at b at 4
    size_same h = number_same a b at (at + k) at 4 r (omega arith) (omega arith)

    kind_same : 8 ≤ k → number_at a (at + 4) 4 ≡ number_at b (at + 4) 4
    kind_same h = number_same a b at (at + k) (at + 4) 4 r (omega arith) (omega arith)

  headers_same : (t₁ t₂ t₃ : Bool) → ltb n (at + 8) ≡ t₁ → eqb (number_at a at 4) 1 ≡ t₂ → ltb n (at + 16) ≡ t₃
      → Agree a b (header_bytes n at (header_from a)) → header_from a ≡ header_from b
  unfolding header_bytes
  headers_same true t₂ t₃ e₁ e₂ e₃ g = none_short n at _ _ _ e₁ ∙ sym (none_short n at _ _ _ e₁)
  headers_same false true true e₁ e₂ e₃ g =
      let v : header_from a ≡ none = none_long n at _ _ _ e₁ e₂ e₃ in
      let r : Range a b at (at + (n - at)) = range_of a b at (n - at) (rw v at g) in
      let h : at + 8 ≤ n = omega (arith, ltb-false n (at + 8) e₁) in
      let p = size_same (n - at) r (omega arith) in
      v ∙ sym (none_long n at _ _ _ e₁ (rw p at e₂) e₃)
  headers_same false true false e₁ e₂ e₃ g =
      let v : header_from a ≡ _ = some_long n at (number_at a at 4) (number_at a (at + 4) 4) (number_at a (at + 8) 8) e₁ e₂ e₃ in
      let r : Range a b at (at + 16) = range_of a b at 16 (rw v at g) in
      let p = size_same 16 r (omega arith) in
      let q = kind_same 16 r (omega arith) in
      let u : number_at a (at + 8) 8 ≡ number_at b (at + 8) 8 = number_same a b at (at + 16) (at + 8) 8 r (omega arith) (omega arith) in
      cc
  headers_same false false t₃ e₁ e₂ e₃ g =
      let v : header_from a ≡ _ = some_short n at (number_at a at 4) (number_at a (at + 4) 4) (number_at a (at + 8) 8) e₁ e₂ in
      let r : Range a b at (at + 8) = range_of a b at 8 (rw v at g) in
      let p = size_same 8 r (omega arith) in
      let q = kind_same 8 r (omega arith) in
      let w : header_from b ≡ _ = some_short n at (number_at b at 4) (number_at b (at + 4) 4) (number_at b (at + 8) 8) e₁ (rw p at e₂) in
      cc

header_same : (a b : List ℕ) (at : ℕ) → length a ≡ length b → Agree a b (header_bytes (length a) at (header_at a at)) → header_at a at ≡ header_at b at
unfolding header_at
header_same a b at e g = headers_same a b (length a) at _ _ _ refl refl refl g ∙ ap (λ (n : ℕ). header_from a b n at b) e

-- ---- A walk over boxes, at any level

-- what a step of the walk reads
abbrev box_step_bytes : Level → ℕ → ℕ → Step Box → List ℕ
box_step_bytes l n = step_bytes (box_bytes l n) (cut_bytes n)

module _ (l : Level) (a b : List ℕ) (e : length a ≡ length b) where
  tested_same : (x : Box) → Agree a b (if l.opens x.kind then span_bytes (length a) x.body else []) → tested l a x ≡ tested l b x
  unfolding tested
  tested_same x = go (l.opens x.kind)
    where
      go : (t : Bool) → Agree a b (if t then span_bytes (length a) x.body else [])
          → (if t then l.test (bytes_in a x.body) else fine tt) ≡ (if t then l.test (bytes_in b x.body) else fine tt)
      go true g = ap l.test (bytes_same a b x.body e g)
      go false g = refl

  said_same : (x : Box) → Agree a b (if l.opens x.kind then span_bytes (length a) x.body else []) → said l a x ≡ said l b x
  unfolding said
  said_same x g = rw (tested_same x g, e)

  sized_same : (h : Header) (o : Outcome ℕ) → Agree a b (box_bytes l (length a) (box_with h (decided o)))
      → (o >>= λ size. said l a (box_with h size)) ≡ (o >>= λ size. said l b (box_with h size))
  unfolding decided box_bytes
  sized_same h (fine size) g =
      let x : Box = box_with h size in
      said_same x (agree_right a b (positions x.start (x.body.from - x.start)) (if l.opens x.kind then span_bytes (length a) x.body else []) g)
  sized_same h (refused n) g = refl

  box_step_same : (o : Option Header) (at : ℕ) → Agree a b (box_step_bytes l (length a) at (box_step l a o)) → box_step l a o ≡ box_step l b o
  unfolding box_step step_bytes
  box_step_same none at g = refl
  box_step_same (some h) at g =
      ap (met (box_with h (decided (body_size (length a) h)))) (sized_same h (body_size (length a) h) g)
      ∙ ap (λ (n : ℕ). met (box_with h (decided (body_size n h))) (body_size n h >>= λ size. said l b (box_with h size))) e

  -- the bytes of a step include those of the look for its header
  step_looks : (o : Option Header) (at : ℕ) → Agree a b (box_step_bytes l (length a) at (box_step l a o)) → Agree a b (header_bytes (length a) at o)
  unfolding box_step step_bytes header_bytes box_bytes cut_bytes box_with
  step_looks none at g = g
  step_looks (some h) at g =
      let k : h.start + h.width - h.start ≡ h.width = omega arith in
      rw k at (agree_left a b (positions h.start (h.start + h.width - h.start)) _ g)

  step_same : (at : ℕ) → Agree a b (box_step_bytes l (length a) at (level_step l a at)) → level_step l a at ≡ level_step l b at
  unfolding level_step step_bytes
  step_same at g = go (leb (length a) at) g ∙ ap (λ (n : ℕ). if leb n at then over else box_step l b (header_at b at)) e
    where
      go : (t : Bool) → Agree a b (box_step_bytes l (length a) at (if t then over else box_step l a (header_at a at)))
          → (if t then over else box_step l a (header_at a at)) ≡ (if t then over else box_step l b (header_at b at))
      go true g = refl
      go false g = box_step_same (header_at a at) at g ∙ ap (box_step l b) (header_same a b at e (step_looks (header_at a at) at g))

-- One law for all levels: the same bytes consulted, the same boxes walked, and the same end.
pub boxes_same : (l : Level) (a b : List ℕ) (at : ℕ) → length a ≡ length b → Agree a b (boxes_bytes l (length a) (boxes l a at)) → boxes l a at ≡ boxes l b at
unfolding boxes boxes_bytes
boxes_same l a b at e g =
    run_same (box_bytes l (length a)) (cut_bytes (length a)) a b (level_step l a) (level_step l b) (step_same l a b e) (length a) at g
    ∙ ap (λ (n : ℕ). run (level_step l b) n at) e

-- whatever is read from the bodies that the level opens
pub opened_same : {B : Type 0} (l : Level) (a b : List ℕ) (f : List ℕ → List B) → length a ≡ length b → (bs : List Box) → Agree a b (each (box_bytes l (length a)) bs)
    → each (λ x. f (bytes_in a x.body)) (only (λ x. l.opens x.kind) bs) ≡ each (λ x. f (bytes_in b x.body)) (only (λ x. l.opens x.kind) bs)
unfolding each only box_bytes
opened_same l a b f e [] g = refl
opened_same {B} l a b f e (x ∷ bs) g =
    go (l.opens x.kind) (agree_right a b header _ (agree_left a b (box_bytes l (length a) x) _ g))
    (opened_same l a b f e bs (agree_right a b (box_bytes l (length a) x) _ g))
  where
    header : List ℕ
    header = positions x.start (x.body.from - x.start)

    gathered : List ℕ → List Box → List B
    gathered s xs = each (λ x. f (bytes_in s x.body)) xs

    rest : List Box
    rest = only (λ x. l.opens x.kind) bs

    go : (t : Bool) → Agree a b (if t then span_bytes (length a) x.body else []) → gathered a rest ≡ gathered b rest
        → gathered a (if t then x ∷ rest else rest) ≡ gathered b (if t then x ∷ rest else rest)
    go true g ih = ap₂ (λ (u v : List B). u ++ v) (ap f (bytes_same a b x.body e g)) ih
    go false g ih = ih
