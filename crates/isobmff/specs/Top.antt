-- The boxes of a file, one after another, up to the first `meta`: what the loop follows.
use Rattle.std.specs.Prelude.{◌≡◌, Bool, ◌||◌, ℕ, ◌+◌, ◌-◌, ◌≤◌, ◌<◌, length, if◌then◌else◌}
use Rattle.std.proofs.Math.Path.{refl, sym, ap}
use Rattle.std.proofs.Common.{◌∙◌}
use Rattle.std.proofs.Math.Bool.{true, false, or-true, or-false, or_assoc}
use mathlib.Core.List.{List, [], ◌∷◌}
use native.Mathlib.Omega.{arith}
use borrow.Author.Tests.{le-leb, lt-leb, eq-eqb, ne_eqb, eqb-true}
use Rattle.rules.specs.Doc.Outcomes.{Outcome, fine, refused, ◌>>=◌, require}
use Rattle.rules.specs.Doc.Lists.{any}
use Rattle.rules.specs.Doc.Bytes.{part, Span, size_of, bytes_in}
use Rattle.rules.specs.Doc.Walks.{End, ended, cut_at, refused_at, stopped_at}
use Rattle.rules.specs.Doc.Headers.{ftyp, meta, Box, box_of, is, whole, file_box_at}
use Rattle.rules.specs.Doc.Levels.{tested, boxes}
use Rattle.rules.specs.Doc.Ftyp.{brand_test, top_level, top, stopped}
use Rattle.rules.specs.Doc.Meta.{opened_in, opened}
use Rattle.rules.specs.Laws.Rows.{bind_fine, bind_assoc}
use Rattle.rules.specs.Laws.Numbers.{bytes_in_is}
use Rattle.rules.specs.Laws.Headers.{whole_fits, file_begins}
use Rattle.rules.specs.Laws.Fold.{folded, ending, closed, onwards, level_next, level_done, top_box}
use Rattle.isobmff.specs.Told.{Lead, on, found}

-- ---- Definitions

-- where a body of `size` bytes ends, if it is whole (where its box starts, and its type, here 0, have no say)
unfoldable pub whole_to : ℕ → ℕ → ℕ → Outcome ℕ
whole_to n from size = whole 2 n (box_of 0 0 from (from + size)) >>= λ u. fine (from + size)

-- what an `ftyp` leads to, and the first `meta`, where q says whether an `ftyp` was met before
unfoldable pub ftyp_over : List ℕ → ℕ → ℕ → Outcome Lead
ftyp_over s from size = do
  to ← whole_to (length s) from size
  _ ← brand_test (part s from (to - from))
  fine (on true to)

unfoldable pub meta_over : ℕ → ℕ → ℕ → Bool → Outcome Lead
meta_over n from size q = do
  _ ← require q 6
  to ← whole_to n from size
  fine (found (record { from = from; to = to }))

-- what a box leads to
unfoldable pub body_over : List ℕ → Bool → Box → Outcome Lead
body_over s q b =
    if is ftyp b then ftyp_over s b.body.from (size_of b.body)
    else if is meta b then meta_over (length s) b.body.from (size_of b.body) q
    else fine (on q b.body.to)

unfoldable pub box_over : List ℕ → ℕ → Bool → Outcome Lead
box_over s at q = file_box_at s at >>= body_over s q

-- where the body of the `meta` that is opened lies
unfoldable pub opened_body : List ℕ → Outcome Span
opened_body img = opened img >>= λ m. fine m.body

-- ---- A body that must be whole

module _ (n from size : ℕ) where
  pub to_cut : n - from < size → refused 2 ≡ whole_to n from size
  unfolding whole_to whole
  to_cut k = rw (lt-leb (from + size) n (omega arith))

  pub to_whole : from ≤ n → size ≤ n - from → fine (from + size) ≡ whole_to n from size
  unfolding whole_to whole
  to_whole l k = rw (le-leb (from + size) n (omega arith))

-- an end that was given lies in the n bytes
pub to_inside : (n from size : ℕ) {to : ℕ} → fine to ≡ whole_to n from size → (from ≤ to) × (to ≤ n)
unfolding whole_to
to_inside n from size {to} e =
    let b : Box = box_of 0 0 from (from + size) in
    let (u, w, f) = bind_fine (whole 2 n b) (λ u. fine (from + size)) e in
    let i = whole_fits 2 n b w in
    let z : to ≡ from + size = cc in
    (omega arith, omega arith)

-- ---- One box

-- of a box that was read: another type is skipped, even past the end
module _ (s : List ℕ) (at : ℕ) (q : Bool) (kind from size : ℕ) (e : fine (box_of at kind from (from + size)) ≡ file_box_at s at) where
  size_is : from + size - from ≡ size
  size_is = omega arith

  pub over_ftyp : kind ≡ ftyp → {o : Outcome Lead} → o ≡ ftyp_over s from size → o ≡ box_over s at q
  unfolding box_over body_over
  over_ftyp k h = rw (← e, eq-eqb kind ftyp k, size_is) h

  pub over_meta : kind ≡ meta → {o : Outcome Lead} → o ≡ meta_over (length s) from size q → o ≡ box_over s at q
  unfolding box_over body_over
  over_meta k h = rw (← e, k, size_is) h

  pub over_other : (kind ≡ ftyp → ⊥) → (kind ≡ meta → ⊥) → fine (on q (from + size)) ≡ box_over s at q
  unfolding box_over body_over
  over_other f m = rw (← e, ne_eqb kind ftyp f, ne_eqb kind meta m)

-- ---- The walk, from a position on

-- whether an `ftyp` was met, and what is asked of the first `meta`
unfoldable pub seen : Bool → Box → Bool
seen q b = q || is ftyp b

unfoldable pub at_meta : ℕ → Bool → Box → Outcome Span
at_meta n q m = require q 6 >>= λ u. whole 2 n m >>= λ v. fine m.body

unfoldable pub opened_from : List ℕ → Bool → ℕ → Outcome Span
opened_from s q at = closed seen (λ q. refused 1) (at_meta (length s)) q (boxes top_level s at)

abbrev pub after_lead : List ℕ → Lead → Outcome Span
after_lead s (on q at) = opened_from s q at
after_lead s (found p) = fine p

module _ (s : List ℕ) where
  -- the end of a body, if it is whole
  whole_to_is : (b : Box) → b.body.from ≤ b.body.to
      → whole_to (length s) b.body.from (size_of b.body) ≡ (whole 2 (length s) b >>= λ u. fine b.body.to)
  unfolding whole_to whole
  whole_to_is b h =
      let z : b.body.from + size_of b.body ≡ b.body.to = omega arith in
      rw z

  ftyp_next : (b : Box) (fit : Outcome (Unit {0})) → whole 2 (length s) b ≡ fit
      → (fit >>= λ u. brand_test (bytes_in s b.body) >>= λ v. opened_from s true b.body.to)
      ≡ (((fit >>= λ u. fine b.body.to) >>= λ to. brand_test (part s b.body.from (to - b.body.from)) >>= λ v. fine (on true to)) >>= after_lead s)
  ftyp_next b (refused n) e = refl
  ftyp_next b (fine u) e =
      rw (bytes_in_is s b.body (whole_fits 2 (length s) b (sym e)))
      (sym (bind_assoc (brand_test (part s b.body.from (size_of b.body))) (λ v. fine (on true b.body.to)) (after_lead s)))

  meta_next : (q : Bool) (b : Box) (fit : Outcome (Unit {0}))
      → (require q 6 >>= λ u. fit >>= λ v. fine b.body) ≡ ((require q 6 >>= λ u. (fit >>= λ v. fine b.body.to) >>= λ to. fine (found (record { from = b.body.from; to = to }))) >>= after_lead s)
  meta_next false b fit = refl
  meta_next true b (fine v) = refl
  meta_next true b (refused n) = refl

  -- an `ftyp`, the `meta`, or another
  by_kind : (q : Bool) (b : Box) → b.body.from ≤ b.body.to → (k₁ k₂ : Bool) → (k₁ ≡ true → k₂ ≡ false)
      → ((if k₁ then whole 2 (length s) b else fine tt) >>= λ u. (if k₁ then brand_test (bytes_in s b.body) else fine tt) >>= λ v.
      if k₂ then at_meta (length s) (q || k₁) b else opened_from s (q || k₁) b.body.to)
      ≡ ((if k₁ then ftyp_over s b.body.from (size_of b.body)
      else if k₂ then meta_over (length s) b.body.from (size_of b.body) q
      else fine (on q b.body.to)) >>= after_lead s)
  unfolding ftyp_over meta_over at_meta
  by_kind q b h true k₂ e = rw (e refl, or-true q, whole_to_is b h) (ftyp_next b (whole 2 (length s) b) refl)
  by_kind q b h false true e = rw (or-false q, whole_to_is b h) (meta_next q b (whole 2 (length s) b))
  by_kind q b h false false e = rw (or-false q)

  apart_kinds : (b : Box) → is ftyp b ≡ true → is meta b ≡ false
  apart_kinds b e = rw (eqb-true b.kind ftyp e)

  abbrev box_then : Bool → Box → Outcome Span
  box_then q b = tested top_level s b >>= λ u. onwards seen (λ q. refused 1) (at_meta (length s)) top_level s q (boxes top_level s) b

  box_next : (q : Bool) (at : ℕ) (o : Outcome Box) → o ≡ file_box_at s at
      → ((o >>= λ b. (if is ftyp b then whole 2 (length s) b else fine tt) >>= λ u. fine b) >>= box_then q) ≡ ((o >>= body_over s q) >>= after_lead s)
  unfolding tested top_level onwards seen body_over opened_from
  box_next q at (refused n) e = refl
  box_next q at (fine b) e =
      bind_assoc (if is ftyp b then whole 2 (length s) b else fine tt) (λ u. fine b) (box_then q)
      ∙ by_kind q b (file_begins s at e).order (is ftyp b) (is meta b) (apart_kinds b)

  -- The boxes from a position: one box, and what it leads to.
  opened_next : (q : Bool) (at : ℕ) → at < length s → opened_from s q at ≡ (box_over s at q >>= after_lead s)
  unfolding opened_from box_over top_level
  opened_next q at k =
      level_next seen (λ q. refused 1) (at_meta (length s)) top_level s q at k
      ∙ ap (λ (o : Outcome Box). o >>= box_then q) (top_box s at) ∙ box_next q at (file_box_at s at) refl

  opened_done : (q : Bool) (at : ℕ) → length s ≤ at → refused 1 ≡ opened_from s q at
  unfolding opened_from
  opened_done q at k = sym (level_done seen (λ q. refused 1) (at_meta (length s)) top_level s q at k)

  seen_any : (q : Bool) (bs : List Box) → folded seen q bs ≡ (q || any (is ftyp) bs)
  unfolding folded seen any
  seen_any q [] = sym (or-false q)
  seen_any q (b ∷ bs) = seen_any (q || is ftyp b) bs ∙ or_assoc q (is ftyp b) (any (is ftyp) bs)

  opened_end : (q : Bool) (e : End Box)
      → ending (λ q. refused 1) (at_meta (length s)) q e ≡ ((stopped e >>= λ m. require q 6 >>= λ u. whole 2 (length s) m >>= λ v. fine m) >>= λ m. fine m.body)
  unfolding ending stopped at_meta
  opened_end q ended = refl
  opened_end q (cut_at n at) = refl
  opened_end q (refused_at n b) = refl
  opened_end q (stopped_at b) = go q (whole 2 (length s) b)
    where
      go : (q : Bool) (fit : Outcome (Unit {0}))
          → (require q 6 >>= λ u. fit >>= λ v. fine b.body) ≡ ((require q 6 >>= λ u. fit >>= λ v. fine b) >>= λ m. fine m.body)
      go true (fine v) = refl
      go true (refused n) = refl
      go false fit = refl

  pub opened_start : opened_from s false 0 ≡ opened_body s
  unfolding opened_from opened_body opened opened_in top closed
  opened_start = rw (seen_any false (boxes top_level s 0).list) (opened_end (any (is ftyp) (boxes top_level s 0).list) (boxes top_level s 0).end)

-- in the loop: the boxes from `at` on decide the answer
pub lead_next : (s : List ℕ) (q : Bool) (at : ℕ) → opened_from s q at ≡ opened_body s → at < length s → {o : Outcome Lead} → o ≡ box_over s at q
    → (o >>= after_lead s) ≡ opened_body s
lead_next s q at inv k e = rw e (sym (opened_next s q at k) ∙ inv)

pub lead_done : (s : List ℕ) (q : Bool) (at : ℕ) → opened_from s q at ≡ opened_body s → length s ≤ at → refused 1 ≡ opened_body s
lead_done s q at inv k = opened_done s q at k ∙ inv

-- a box that is passed leads forward
pub on_ahead : (s : List ℕ) (q : Bool) (at : ℕ) {q' : Bool} {next : ℕ} → fine (on q' next) ≡ box_over s at q → at < next
unfolding box_over body_over ftyp_over meta_over
on_ahead s q at {q'} {next} e =
    let (b, f, g) = bind_fine (file_box_at s at) (body_over s q) e in
    let i = file_begins s at f in
    omega (arith, i.ahead, go b i.order (is ftyp b) (is meta b) g)
  where
    go : (b : Box) → b.body.from ≤ b.body.to → (k₁ k₂ : Bool)
        → fine (on q' next) ≡ (if k₁ then ftyp_over s b.body.from (size_of b.body)
        else if k₂ then meta_over (length s) b.body.from (size_of b.body) q
        else fine (on q b.body.to)) → b.body.from ≤ next
    go b h true k₂ g =
        let (to, p, g₁) = bind_fine (whole_to (length s) b.body.from (size_of b.body)) _ g in
        let (u, r, g₂) = bind_fine (brand_test (part s b.body.from (to - b.body.from))) _ g₁ in
        let z : next ≡ to = cc in
        omega (arith, (to_inside (length s) b.body.from (size_of b.body) p).0)
    go b h false true g =
        let (u, p, g₁) = bind_fine (require q 6) _ g in
        let (to, r, g₂) = bind_fine (whole_to (length s) b.body.from (size_of b.body)) _ g₁ in
        absurd (let z : ◌≡◌ {A = ℕ} 0 1 = cc in omega arith)
    go b h false false g =
        let z : next ≡ b.body.to = cc in
        omega arith
