-- Where the boxes lie that extraction opens or keeps: the last `iloc` and `idat`, the `meta` that is opened, the bytes that a method names.
use Rattle.std.specs.Prelude.{◌≡◌, refl, ℕ, ◌≤◌, Bool, List, [], ◌∷◌, length, eqb}
use Rattle.std.proofs.Common.{sym, ◌∙◌, subst, arith, eqb-true}
use Rattle.std.proofs.lemmas.Bool.{false≢true}
use Rattle.std.proofs.Math.Option.{Option, none, some, none-ne-some}
use Rattle.rules.specs.Doc.Outcomes.{Outcome, fine, refused, require, given}
use Rattle.rules.specs.Doc.Lists.{any, only, last_of}
use Rattle.rules.specs.Doc.Bytes.{Span, size_of, bytes_in}
use Rattle.rules.specs.Doc.Walks.{End, ended, cut_at, refused_at, stopped_at, Walk, outcome}
use Rattle.rules.specs.Doc.Headers.{ftyp, meta, iloc, idat, Box, is, whole, child_at}
use Rattle.rules.specs.Doc.Levels.{inside}
use Rattle.rules.specs.Doc.Ftyp.{top_level, top, stopped}
use Rattle.rules.specs.Doc.Meta.{opened_in, opened, meta_test}
use Rattle.rules.specs.Doc.Children.{meta_level, children, body_in, last_body, wanted_item, Kept, kept_in, kept}
use Rattle.rules.specs.Doc.Iloc.{chosen}
use Rattle.rules.specs.Doc.Join.{Plan, moved, moved_option, plan_of, plan, by_method, source_of}
use Rattle.rules.specs.Laws.Rows.{apart, bind_fine, there, by_test}
use Rattle.rules.specs.Laws.Numbers.{part_length, bytes_in_is}
use Rattle.rules.specs.Laws.Headers.{whole_fits, child_inside}
use Rattle.rules.specs.Laws.BoxRow.{Row, read, EndsAt, boxes_row}

-- a body that lies in n bytes
pub record Lies (n : ℕ) (p : Span) : Type 0 where
  pub order : p.from ≤ p.to
  pub inner : p.to ≤ n

abbrev pub All : {A : Type 0} → (A → Type 0) → List A → Type 0
All P [] = Unit {0}
All P (x ∷ xs) = P x × All P xs

-- ---- The last `iloc` and the last `idat`

-- The children of `meta` stand in a row, up to the end of its body: no child ends the walk.
pub children_row : (body : List ℕ) → outcome (children body).end ≡ fine tt → (to : ℕ) × Row (child_at body) 4 (children body).list to × (length body ≤ to)
unfolding children meta_level inside child_at
children_row body e =
    let (to, r, x) = boxes_row meta_level body 4 e in
    (to, r, go (children body).end to x)
  where
    go : (e : End Box) (to : ℕ) → EndsAt meta_level body e to → length body ≤ to
    go ended to x = x
    go (cut_at n at) to x = absurd x
    go (refused_at n b) to x = absurd x
    go (stopped_at b) to x = absurd (false≢true x.1)

-- whole boxes in a row lie in the bytes
row_lies : (s : List ℕ) (at : ℕ) (bs : List Box) (to : ℕ) → Row (child_at s) at bs to → All (λ b. Lies (length s) b.body) bs
row_lies s at [] to r = tt
row_lies s at (b ∷ bs) to r =
    let i = child_inside s at r.0 in
    (record { order = i.order; inner = i.inner }, row_lies s b.body.to bs to r.1)

only_all : {A : Type 0} (P : A → Type 0) (p : A → Bool) (xs : List A) → All P xs → All P (only p xs)
unfolding only
only_all P p [] a = tt
only_all P p (x ∷ xs) a = by_test (All P) (p x) (λ e. (a.0, only_all P p xs a.1)) (λ e. only_all P p xs a.1)

last_all : (P : Span → Type 0) (bs : List Box) {d : Span} → All (λ b. P b.body) bs → body_in (last_of bs) ≡ some d → P d
unfolding body_in last_of
last_all P [] a e = absurd (none-ne-some _ e)
last_all P (b ∷ []) {d} a e =
    let k : d ≡ b.body = cc in
    rw k a.0
last_all P (b ∷ c ∷ bs) a e = last_all P (c ∷ bs) a.1 e

last_lies : (body : List ℕ) (kind : ℕ) (d : Span) → fine tt ≡ outcome (children body).end → last_body kind (children body).list ≡ some d
    → Lies (length body) d
unfolding last_body
last_lies body kind d e f =
    let bs : List Box = (children body).list in
    let (to, r, x) = children_row body (sym e) in
    last_all (Lies (length body)) (only (is kind) bs) (only_all (λ b. Lies (length body) b.body) (is kind) bs (row_lies body 4 bs to r)) f

-- what is kept was in the list
record InList (body : List ℕ) (k : Kept) : Type 0 where
  ended_well : fine tt ≡ outcome (children body).end
  iloc_is : last_body iloc (children body).list ≡ some k.iloc
  idat_is : k.idat ≡ last_body idat (children body).list

kept_list : (body : List ℕ) (k : Kept) → kept body ≡ fine k → InList body k
unfolding kept kept_in
kept_list body k e =
    let w : Walk Box = children body in
    let (u, a, e₁) = bind_fine (meta_test body) _ (sym e) in
    let (v, b, e₂) = bind_fine (outcome w.end) _ e₁ in
    let (i, c, e₃) = bind_fine (given (wanted_item body w.list) 1) _ e₂ in
    let (t, g, e₄) = bind_fine (given (last_body iloc w.list) 16) _ e₃ in
    let z : k ≡ record { wanted = i.id; iloc = t; idat = last_body idat w.list } = cc in
    rw z (record { ended_well = b; iloc_is = there (last_body iloc w.list) 16 g; idat_is = refl })

pub iloc_lies : (body : List ℕ) (k : Kept) → kept body ≡ fine k → Lies (length body) k.iloc
iloc_lies body k e = let i = kept_list body k e in last_lies body iloc k.iloc i.ended_well i.iloc_is

pub idat_lies : (body : List ℕ) (k : Kept) (d : Span) → kept body ≡ fine k → k.idat ≡ some d → Lies (length body) d
idat_lies body k d e f = let i = kept_list body k e in last_lies body idat d i.ended_well (sym i.idat_is ∙ f)

-- ---- The `meta` that is opened

stopped_at_is : (w : End Box) {m : Box} → fine m ≡ stopped w → w ≡ stopped_at m
unfolding stopped
stopped_at_is ended h = absurd (apart h)
stopped_at_is (cut_at n at) h = absurd (apart h)
stopped_at_is (refused_at n b) h = absurd (apart h)
stopped_at_is (stopped_at b) h = cc

-- it ended the walk, and is whole
opened_parts : (img : List ℕ) (m : Box) → opened img ≡ fine m → (fine m ≡ stopped (top img).end) × (fine tt ≡ whole 2 (length img) m)
unfolding opened opened_in
opened_parts img m e =
    let (b, p, e₁) = bind_fine (stopped (top img).end) _ (sym e) in
    let (u, q, e₂) = bind_fine (require (any (is ftyp) (top img).list) 6) _ e₁ in
    let (v, r, e₃) = bind_fine (whole 2 (length img) b) _ e₂ in
    let k : m ≡ b = cc in
    rw k (p, r)

-- the boxes up to and with it stand in a row
pub top_row : (img : List ℕ) (m : Box) → opened img ≡ fine m
    → Row (read top_level img) 0 (top img).list m.body.to × (m.kind ≡ meta) × (m.body.from ≤ m.body.to)
unfolding top_level top outcome
top_row img m e =
    let f = stopped_at_is (top img).end (opened_parts img m e).0 in
    let (to, r, x) = boxes_row top_level img 0 (rw f) in
    let (y, z, o) = subst (λ (w : End Box). EndsAt top_level img w to) f x in
    (rw y at r, eqb-true m.kind meta z, o)

pub opened_lies : (img : List ℕ) (m : Box) → opened img ≡ fine m → Lies (length img) m.body
opened_lies img m e = record { order = (top_row img m e).2; inner = whole_fits 2 (length img) m (opened_parts img m e).1 }

-- ---- The bytes that a method names

pub part_size : (s : List ℕ) (p : Span) → p.to ≤ length s → length (bytes_in s p) ≡ size_of p
part_size s p h = rw (bytes_in_is s p h) (part_length s p h)

plan_idat : (origin : ℕ) (body : List ℕ) (p : Plan) → plan origin body ≡ fine p → (k : Kept) × (kept body ≡ fine k) × (p.idat ≡ moved_option origin k.idat)
unfolding plan plan_of
plan_idat origin body p e =
    let (k, a, e₁) = bind_fine (kept body) _ (sym e) in
    let (c, b, e₂) = bind_fine (chosen (bytes_in body k.iloc) k.wanted) _ e₁ in
    (k, sym a, cc)

-- a span ends in n bytes, if there is one
abbrev Within : ℕ → Outcome Span → Type 0
Within n (fine p) = p.to ≤ n
Within n (refused k) = Unit {0}

idat_within : (img : List ℕ) (m : Box) (k : Kept) → opened img ≡ fine m → kept (bytes_in img m.body) ≡ fine k → (o : Option Span) → k.idat ≡ o
    → Within (length img) (given (moved_option m.body.from o) 21)
unfolding moved_option moved
idat_within img m k e f none h = tt
idat_within img m k e f (some d) h =
    let i = opened_lies img m e in
    let j = idat_lies (bytes_in img m.body) k d f h in
    omega (arith, part_size img m.body i.inner)

-- The source of a plan ends inside the image.
pub source_lies : (img : List ℕ) (m : Box) (p : Plan) (source : Span) → opened img ≡ fine m → plan m.body.from (bytes_in img m.body) ≡ fine p
    → source_of (length img) p.idat p.entry.method ≡ fine source → source.to ≤ length img
unfolding source_of by_method
source_lies img m p source e f g =
    let n : ℕ = length img in
    let method : ℕ = p.entry.method in
    let (k, a, b) = plan_idat m.body.from (bytes_in img m.body) p f in
    subst (Within n) g
    (by_test (Within n) (eqb method 0) (λ t. omega arith)
    (λ t. by_test (Within n) (eqb method 1) (λ u. rw b (idat_within img m k e a k.idat refl))
    (λ u. by_test (Within n) (eqb method 2) (λ v. tt) (λ v. tt))))
