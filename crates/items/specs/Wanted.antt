-- The wanted id: what an `infe`, a box of an `iinf` and a whole `iinf` leave of it.
use Rattle.std.specs.Prelude.{◌≡◌, Bool, true, false, if◌then◌else◌}
use Rattle.std.proofs.Math.Path.{refl, sym}
use Rattle.std.proofs.Common.{ap, ◌∙◌}
use Rattle.std.proofs.Math.Option.{Option, none, some, map}
use mathlib.Core.List.{List, [], ◌∷◌}
use Prim.Native.Nat.{ℕ, suc, ◌+◌, ◌-◌, ◌≤◌, ◌<◌}
use native.Mathlib.Omega.{arith}
use borrow.Author.Tests.{eq-eqb, ne_eqb}
use Rattle.rules.specs.Doc.Outcomes.{Outcome, fine, refused, ◌>>=◌, once}
use Rattle.rules.specs.Doc.Lists.{only, last_of, each}
use Rattle.rules.specs.Doc.Bytes.{part, bytes_in, field, version}
use Rattle.rules.specs.Doc.Walks.{outcome}
use Rattle.rules.specs.Doc.Headers.{infe, Exif, Box, is_kind, is, child_at}
use Rattle.rules.specs.Doc.Levels.{tested, counted_boxes, inside}
use Rattle.rules.specs.Doc.Iinf.{Item, item_id_size, item, item_test, is_exif, item_in, items}
use Rattle.rules.specs.Doc.Iinf.{Count, count_size, info_count, info_level, infos, info_test, info_boxes}
use Rattle.rules.specs.Laws.Rows.{bind_assoc}
use Rattle.rules.specs.Laws.Fold.{folded, leaves, read_next, counted_children_next, counted_children_done}
use Rattle.rules.specs.Laws.Last.{or_else, keep, keep_last, feed, feed_each}
use Rattle.boxes.specs.Loops.{WholeBox}

-- ---- What the public contracts cite

-- one `infe`: type `Exif` sets the wanted id
unfoldable pub infe_over : List ℕ → Option ℕ → Outcome (Option ℕ)
infe_over body w = item body >>= λ i. fine (if is_exif i then some i.id else w)

-- the id of the last Exif item
abbrev last_id : List Item → Option ℕ
last_id xs = map (λ i. i.id) (last_of (only is_exif xs))

-- one `iinf`: the last of its Exif items wins, over what was wanted before it too
unfoldable pub iinf_over : List ℕ → Option ℕ → Outcome (Option ℕ)
iinf_over body w = info_test body >>= λ u. fine (or_else (last_id (items body)) w)

-- ---- The same, item by item

-- what an item makes of the wanted id
unfoldable pub wants : Option ℕ → Item → Option ℕ
wants = keep is_exif (λ i. i.id)

last_wanted : (w : Option ℕ) (xs : List Item) → folded wants w xs ≡ or_else (last_id xs) w
unfolding wants
last_wanted w xs = keep_last is_exif (λ i. i.id) w xs

pub iinf_folded : (body : List ℕ) (w : Option ℕ) → iinf_over body w ≡ (info_test body >>= λ u. fine (folded wants w (items body)))
unfolding iinf_over
iinf_folded body w = rw (last_wanted w (items body))

-- ---- An `infe`, read after read

-- behind the id, which ends at a position: two bytes, then four of type
unfoldable pub behind_id : List ℕ → ℕ → ℕ → Option ℕ → Outcome (Option ℕ)
behind_id body id at w = (do
  _ ← field body at 2
  k ← field body (at + 2) 4
  fine (record { id = id; kind = k })) >>= λ i. fine (if is_exif i then some i.id else w)

-- each read was refused, or gave a number
module _ (body : List ℕ) (id at : ℕ) (w : Option ℕ) where
  pub two_refused : {n : ℕ} → refused n ≡ field body at 2 → refused n ≡ behind_id body id at w
  unfolding behind_id
  two_refused e = rw (← e)

  module _ {u : ℕ} (two : fine u ≡ field body at 2) where
    pub type_refused : {n : ℕ} → refused n ≡ field body (at + 2) 4 → refused n ≡ behind_id body id at w
    unfolding behind_id
    type_refused e = rw (← two, ← e)

    module _ {k : ℕ} (e : fine k ≡ field body (at + 2) 4) where
      pub type_exif : k ≡ Exif → fine (some id) ≡ behind_id body id at w
      unfolding behind_id is_exif
      type_exif h = rw (← two, ← e, h)

      pub type_other : (k ≡ Exif → ⊥) → fine w ≡ behind_id body id at w
      unfolding behind_id is_exif
      type_other h = rw (← two, ← e, ne_eqb k Exif h)

-- by the version
module _ (body : List ℕ) (w : Option ℕ) where
  pub infe_cut : {n : ℕ} → refused n ≡ version body 0 → refused n ≡ infe_over body w
  unfolding infe_over item
  infe_cut e = rw (← e)

  module _ {v : ℕ} (e : fine v ≡ version body 0) where
    pub infe_two_cut : {n : ℕ} → v ≡ 2 → refused n ≡ field body 4 2 → refused n ≡ infe_over body w
    unfolding infe_over item item_id_size
    infe_two_cut k f = rw (← e, k, ← f)

    pub infe_two : {i : ℕ} {r : Outcome (Option ℕ)} → v ≡ 2 → fine i ≡ field body 4 2 → r ≡ behind_id body i 6 w → r ≡ infe_over body w
    unfolding infe_over item item_id_size behind_id
    infe_two k f g = rw (← e, k, ← f) g

    pub infe_three_cut : {n : ℕ} → v ≡ 3 → refused n ≡ field body 4 4 → refused n ≡ infe_over body w
    unfolding infe_over item item_id_size
    infe_three_cut k f = rw (← e, k, ← f)

    pub infe_three : {i : ℕ} {r : Outcome (Option ℕ)} → v ≡ 3 → fine i ≡ field body 4 4 → r ≡ behind_id body i 8 w → r ≡ infe_over body w
    unfolding infe_over item item_id_size behind_id
    infe_three k f g = rw (← e, k, ← f) g

    pub infe_other : (v ≡ 2 → ⊥) → (v ≡ 3 → ⊥) → refused 9 ≡ infe_over body w
    unfolding infe_over item item_id_size
    infe_other p q = rw (← e, ne_eqb v 2 p, ne_eqb v 3 q)

-- ---- An `iinf`, box by box

-- what a box makes of the wanted id
sees : List ℕ → Option ℕ → Box → Option ℕ
sees body = feed wants (is infe) (item_in body)

-- that many boxes, from a position
pub entries_over : List ℕ → ℕ → ℕ → Option ℕ → Outcome (Option ℕ)
entries_over body n at w = leaves (sees body) w (counted_boxes info_level body n at)

module _ (body : List ℕ) (w : Option ℕ) where
  -- a whole `iinf` is its boxes, one after another
  iinf_boxes : iinf_over body w ≡ (info_count body >>= λ c. entries_over body c.count c.from w)
  unfolding info_test items info_boxes infos once entries_over sees leaves
  iinf_boxes = iinf_folded body w ∙ go (info_count body)
    where
      items_of : List Box → List Item
      items_of bs = each (item_in body) (only (is infe) bs)

      go : (o : Outcome Count)
          → ((o >>= λ c. outcome (infos body c).end) >>= λ u. fine (folded wants w (items_of (once (λ c. (infos body c).list) o))))
          ≡ (o >>= λ c. leaves (sees body) w (infos body c))
      go (fine c) =
          let fed = feed_each wants (is infe) (item_in body) w (infos body c).list in
          ap (λ (r : Option ℕ). outcome (infos body c).end >>= λ u. fine r) (sym fed)
      go (refused n) = refl

  pub iinf_cut : {n : ℕ} → refused n ≡ version body 0 → refused n ≡ iinf_over body w
  unfolding info_count
  iinf_cut e = rw (iinf_boxes, ← e)

  module _ {v : ℕ} (e : fine v ≡ version body 0) where
    pub iinf_zero_cut : {n : ℕ} → v ≡ 0 → refused n ≡ field body 4 2 → refused n ≡ iinf_over body w
    unfolding info_count count_size
    iinf_zero_cut k f = rw (iinf_boxes, ← e, k, ← f)

    pub iinf_zero : {n : ℕ} {r : Outcome (Option ℕ)} → v ≡ 0 → fine n ≡ field body 4 2 → r ≡ entries_over body n 6 w → r ≡ iinf_over body w
    unfolding info_count count_size
    iinf_zero k f g = rw (iinf_boxes, ← e, k, ← f) g

    pub iinf_other_cut : {n : ℕ} → (v ≡ 0 → ⊥) → refused n ≡ field body 4 4 → refused n ≡ iinf_over body w
    unfolding info_count count_size
    iinf_other_cut k f = rw (iinf_boxes, ← e, ne_eqb v 0 k, ← f)

    pub iinf_other : {n : ℕ} {r : Outcome (Option ℕ)} → (v ≡ 0 → ⊥) → fine n ≡ field body 4 4 → r ≡ entries_over body n 8 w → r ≡ iinf_over body w
    unfolding info_count count_size
    iinf_other k f g = rw (iinf_boxes, ← e, ne_eqb v 0 k, ← f) g

-- asked with nothing wanted before it, an `infe` says what it changes
infe_alone : (body : List ℕ) (w : Option ℕ) → infe_over body w ≡ (infe_over body none >>= λ x. fine (or_else x w))
unfolding infe_over
infe_alone body w = go (item body)
  where
    chosen : (i : Item) (t : Bool) → fine (if t then some i.id else w) ≡ fine (or_else (if t then some i.id else none) w)
    chosen i true = refl
    chosen i false = refl

    go : (o : Outcome Item)
        → (o >>= λ i. fine (if is_exif i then some i.id else w))
        ≡ ((o >>= λ i. fine (if is_exif i then some i.id else none)) >>= λ x. fine (or_else x w))
    go (refused n) = refl
    go (fine i) = chosen i (is_exif i)

-- a box read as it is met: the `infe` among them are read
abbrev reads : List ℕ → Option ℕ → Box → Outcome (Option ℕ)
reads body w b = if is infe b then infe_over (bytes_in body b.body) w else fine w

-- that refuses what the level's test refuses, and else does what the fold does
reads_agree : (body : List ℕ) (w : Option ℕ) (b : Box)
    → reads body w b ≡ (tested (inside (is_kind infe) item_test) body b >>= λ u. fine (sees body w b))
unfolding infe_over tested inside item_test sees wants feed keep item_in folded once
reads_agree body w b = go (is infe b) (item (bytes_in body b.body))
  where
    go : (t : Bool) (o : Outcome Item)
        → (if t then (o >>= λ i. fine (if is_exif i then some i.id else w)) else fine w)
        ≡ ((if t then (o >>= λ i. fine (tt {0})) else fine tt) >>= λ u. fine (if t then folded wants w (once (λ i. i ∷ []) o) else w))
    go true (fine i) = refl
    go true (refused n) = refl
    go false o = refl

-- in a loop over n boxes, of which i were read: `r` is what all of them leave, and those from `at` on decide it
module _ (body : List ℕ) (n i at : ℕ) (w : Option ℕ) {r : Outcome (Option ℕ)} (inv : entries_over body (n - i) at w ≡ r) where
  pub entries_none : n ≤ i → fine w ≡ r
  unfolding entries_over info_level
  entries_none h =
      let k : n - i ≡ 0 = omega arith in
      let done = counted_children_done (sees body) (is_kind infe) item_test body (reads body) (reads_agree body) w at in
      sym done ∙ (rw k at inv)

  module _ (h : i < n) where
    entries_next : (child_at body at >>= λ b. reads body w b >>= λ w. entries_over body (n - (i + 1)) b.body.to w) ≡ r
    unfolding entries_over info_level read_next
    entries_next =
        let k : n - i ≡ suc (n - (i + 1)) = omega arith in
        let next = counted_children_next (sees body) (is_kind infe) item_test body (reads body) (reads_agree body) w (n - (i + 1)) at in
        sym next ∙ (rw k at inv)

    pub entries_cut : {m : ℕ} → refused m ≡ child_at body at → refused m ≡ r
    entries_cut e = rw (← e) at entries_next

    module _ {kind from to : ℕ} (b : WholeBox body at kind from to) where
      module _ (k : kind ≡ infe) where
        infe_next : {o : Outcome (Option ℕ)} → o ≡ infe_over (part body from (to - from)) none
            → (o >>= λ x. entries_over body (n - (i + 1)) to (or_else x w)) ≡ r
        infe_next {o} f =
            sym (bind_assoc o (λ x. fine (or_else x w)) (entries_over body (n - (i + 1)) to))
            ∙ rw (← b.is, eq-eqb kind infe k, b.bytes, infe_alone _ w, ← f) at entries_next

        pub entries_refused : {m : ℕ} → refused m ≡ infe_over (part body from (to - from)) none → refused m ≡ r
        entries_refused f = infe_next f

        pub entries_exif : {id : ℕ} → fine (some id) ≡ infe_over (part body from (to - from)) none → entries_over body (n - (i + 1)) to (some id) ≡ r
        entries_exif f = infe_next f

        pub entries_same : fine none ≡ infe_over (part body from (to - from)) none → entries_over body (n - (i + 1)) to w ≡ r
        entries_same f = infe_next f

      pub entries_other : (kind ≡ infe → ⊥) → entries_over body (n - (i + 1)) to w ≡ r
      entries_other k = rw (← b.is, ne_eqb kind infe k) at entries_next
