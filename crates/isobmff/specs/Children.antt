-- The children of `meta`, one after another, and what they leave: what the loop follows.
use Rattle.std.specs.Prelude.{◌≡◌, refl, Bool, true, false, length, if◌then◌else◌}
use Rattle.std.proofs.Math.Path.{sym}
use Rattle.std.proofs.Common.{◌∙◌}
use Rattle.std.proofs.Math.Option.{Option, none, some, map}
use mathlib.Core.List.{List, [], ◌∷◌}
use Prim.Native.Nat.{ℕ, ◌-◌, ◌≤◌, ◌<◌}
use borrow.Author.Tests.{ne_eqb}
use Rattle.rules.specs.Doc.Outcomes.{Outcome, fine, refused, ◌>>=◌, given}
use Rattle.rules.specs.Doc.Lists.{only, last_of}
use Rattle.rules.specs.Doc.Bytes.{part, Span, bytes_in, version}
use Rattle.rules.specs.Doc.Walks.{Walk, outcome}
use Rattle.rules.specs.Doc.Headers.{iinf, iloc, idat, Box, is_kind, is, child_at}
use Rattle.rules.specs.Doc.Levels.{tested, boxes, inside}
use Rattle.rules.specs.Doc.Meta.{meta_test}
use Rattle.rules.specs.Doc.Children.{meta_level, children, body_in, last_body, all_items, wanted_item, Kept, kept_in, kept}
use Rattle.rules.specs.Doc.Iinf.{Item, is_exif, info_test, items}
use Rattle.rules.specs.Laws.Rows.{bind_assoc}
use Rattle.rules.specs.Laws.Fold.{folded, leaves, read_next, children_next, children_done}
use Rattle.rules.specs.Laws.Last.{keep, kept_last, feed, feed_each}
use Rattle.boxes.specs.Loops.{WholeBox}
use Rattle.items.specs.Wanted.{iinf_over, wants, iinf_folded}
use Rattle.isobmff.specs.Told.{State}

-- ---- Definitions

-- the state with a child more: the wanted id, and of `iloc` and `idat` the last one
abbrev left_by : State → Box → Option ℕ → State
left_by st b w = record { wanted = w; iloc = keep (is iloc) (λ b. b.body) st.iloc b; idat = keep (is idat) (λ b. b.body) st.idat b }

-- what a child makes of the state: `iinf` is read as it is met
unfoldable pub sees : List ℕ → State → Box → State
sees body st b = left_by st b (feed wants (is iinf) (λ b. items (bytes_in body b.body)) st.wanted b)

-- before any child
abbrev pub nothing : State
nothing = record { wanted = none; iloc = none; idat = none }

-- from a position on
unfoldable pub children_from : List ℕ → ℕ → State → Outcome State
children_from body at st = leaves (sees body) st (boxes meta_level body at)

unfoldable pub children_over : List ℕ → Outcome State
children_over body = leaves (sees body) nothing (children body)

-- after the children: no wanted id is 1; no `iloc` is 16
unfoldable pub afterwards : State → Outcome Kept
afterwards st = do
  i ← given st.wanted 1
  t ← given st.iloc 16
  fine (record { wanted = i; iloc = t; idat = st.idat })

-- ---- One child

module _ (body : List ℕ) where
  -- a child read as it is met, over its bytes
  abbrev reads : State → Box → Outcome State
  reads st b = do
    w ← if is iinf b then iinf_over (bytes_in body b.body) st.wanted else fine st.wanted
    fine (left_by st b w)

  -- that refuses what the level's test refuses, and else does what the fold does
  reads_agree : (st : State) (b : Box) → reads st b ≡ (tested (inside (is_kind iinf) info_test) body b >>= λ u. fine (sees body st b))
  unfolding tested inside sees feed
  reads_agree st b = go (is iinf b)
    where
      s : List ℕ
      s = bytes_in body b.body

      go : (t : Bool) → ((if t then iinf_over (bytes_in body b.body) st.wanted else fine st.wanted) >>= λ w. fine (left_by st b w))
          ≡ ((if t then info_test (bytes_in body b.body) else fine tt)
          >>= λ u. fine (left_by st b (if t then folded wants st.wanted (items (bytes_in body b.body)) else st.wanted)))
      go true = rw (iinf_folded s st.wanted) (bind_assoc (info_test s) (λ u. fine (folded wants st.wanted (items s))) (λ w. fine (left_by st b w)))
      go false = refl

-- in the loop: `r` is what all children leave, and those from `at` on decide it
module _ (body : List ℕ) (at : ℕ) (st : State) {r : Outcome State} (inv : children_from body at st ≡ r) where
  pub children_over_is : length body ≤ at → fine st ≡ r
  unfolding children_from meta_level
  children_over_is h = sym (children_done (sees body) (is_kind iinf) info_test body (reads body) (reads_agree body) st at h) ∙ inv

  module _ (h : at < length body) where
    next : (child_at body at >>= λ b. reads body st b >>= λ st. children_from body b.body.to st) ≡ r
    unfolding children_from meta_level read_next
    next = sym (children_next (sees body) (is_kind iinf) info_test body (reads body) (reads_agree body) st at h) ∙ inv

    pub child_cut : {n : ℕ} → refused n ≡ child_at body at → refused n ≡ r
    child_cut e = rw (← e) at next

    -- by the type
    module _ {kind from to : ℕ} (b : WholeBox body at kind from to) where
      pub child_iinf : {o : Outcome (Option ℕ)} → kind ≡ iinf → o ≡ iinf_over (part body from (to - from)) st.wanted
          → (o >>= λ w. children_from body to (record { wanted = w; iloc = st.iloc; idat = st.idat })) ≡ r
      unfolding keep
      child_iinf {o} k f =
          sym (bind_assoc o (λ w. fine (record { wanted = w; iloc = st.iloc; idat = st.idat })) (children_from body to))
          ∙ rw (← b.is, k, b.bytes, ← f) at next

      pub child_iloc : kind ≡ iloc
          → children_from body to (record { wanted = st.wanted; iloc = some (record { from = from; to = to }); idat = st.idat }) ≡ r
      unfolding keep
      child_iloc k = rw (← b.is, k) at next

      pub child_idat : kind ≡ idat
          → children_from body to (record { wanted = st.wanted; iloc = st.iloc; idat = some (record { from = from; to = to }) }) ≡ r
      unfolding keep
      child_idat k = rw (← b.is, k) at next

      pub child_other : (kind ≡ iinf → ⊥) → (kind ≡ iloc → ⊥) → (kind ≡ idat → ⊥) → children_from body to st ≡ r
      unfolding keep
      child_other p q o = rw (← b.is, ne_eqb kind iinf p, ne_eqb kind iloc q, ne_eqb kind idat o) at next

pub children_start : (body : List ℕ) → children_from body 4 nothing ≡ children_over body
unfolding children_from children_over children
children_start body = refl

-- ---- All of them

-- the three parts of the state go their own ways
folded_parts : (body : List ℕ) (st : State) (bs : List Box)
    → folded (sees body) st bs
    ≡ record {
      wanted = folded (feed wants (is iinf) (λ b. items (bytes_in body b.body))) st.wanted bs;
      iloc = folded (keep (is iloc) (λ b. b.body)) st.iloc bs;
      idat = folded (keep (is idat) (λ b. b.body)) st.idat bs;
    }
unfolding folded sees
folded_parts body st [] = refl
folded_parts body st (b ∷ bs) = folded_parts body (sees body st b) bs

-- from nothing, each is the last of the list
last_body_is : (k : ℕ) (bs : List Box) → folded (keep (is k) (λ b. b.body)) none bs ≡ last_body k bs
unfolding last_body body_in
last_body_is k bs = kept_last (is k) (λ b. b.body) bs ∙ go (last_of (only (is k) bs))
  where
    go : (o : Option Box) → map (λ b. b.body) o ≡ body_in o
    go none = refl
    go (some b) = refl

last_item : (body : List ℕ) (bs : List Box)
    → folded (feed wants (is iinf) (λ b. items (bytes_in body b.body))) none bs ≡ map (λ i. i.id) (wanted_item body bs)
unfolding wanted_item all_items wants
last_item body bs =
    feed_each wants (is iinf) (λ b. items (bytes_in body b.body)) none bs ∙ kept_last is_exif (λ i. i.id) (all_items body bs)

concluded : (i : Option Item) (t d : Option Span)
    → (given i 1 >>= λ i. given t 16 >>= λ t. fine (record { wanted = i.id; iloc = t; idat = d }))
    ≡ afterwards (record { wanted = map (λ i. i.id) i; iloc = t; idat = d })
unfolding afterwards
concluded none t d = refl
concluded (some i) none d = refl
concluded (some i) (some t) d = refl

module _ (body : List ℕ) where
  kept_by : kept_in body (children body) ≡ (children_over body >>= afterwards)
  unfolding kept_in children_over leaves
  kept_by = go (outcome w.end)
    where
      w : Walk Box
      w = children body

      go : (o : Outcome (Unit {0}))
          → (o >>= λ u. given (wanted_item body (children body).list) 1 >>= λ i. given (last_body iloc (children body).list) 16
          >>= λ t. fine (record { wanted = i.id; iloc = t; idat = last_body idat (children body).list }))
          ≡ ((o >>= λ u. fine (folded (sees body) nothing (children body).list)) >>= afterwards)
      go (refused n) = refl
      go (fine u) =
          concluded (wanted_item body w.list) (last_body iloc w.list) (last_body idat w.list)
          ∙ rw (folded_parts body nothing w.list, last_item body w.list, last_body_is iloc w.list, last_body_is idat w.list)

  -- by the version
  pub meta_cut : {n : ℕ} → refused n ≡ version body 0 → refused n ≡ kept body
  unfolding kept meta_test
  meta_cut e = rw (← e)

  pub meta_version : {v : ℕ} → fine v ≡ version body 0 → (v ≡ 0 → ⊥) → refused 8 ≡ kept body
  unfolding kept meta_test
  meta_version {v} e k = rw (← e, ne_eqb v 0 k)

  pub meta_children : {v : ℕ} → fine v ≡ version body 0 → v ≡ 0 → {o : Outcome State} → o ≡ children_over body → (o >>= afterwards) ≡ kept body
  unfolding kept meta_test
  meta_children e k f = rw (← e, k, f) (sym kept_by)
