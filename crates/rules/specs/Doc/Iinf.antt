-- Steps 4 and 5: `iinf`, and the `infe` in it.
use Rattle.std.specs.Prelude.{ℕ, ◌+◌, Bool, List, [], ◌∷◌, eqb, if◌then◌else◌}
use Rattle.rules.specs.Doc.Outcomes.{Outcome, fine, refused, ◌>>=◌, once}
use Rattle.rules.specs.Doc.Lists.{only, each}
use Rattle.rules.specs.Doc.Bytes.{bytes_in, field, version}
use Rattle.rules.specs.Doc.Walks.{Walk, outcome}
use Rattle.rules.specs.Doc.Headers.{infe, Exif, Box, is_kind, is}
use Rattle.rules.specs.Doc.Levels.{Level, counted_boxes, inside}

-- ---- Step 5

-- what an `infe` says of an item
pub record Item : Type 0 where
  pub id : ℕ
  pub kind : ℕ

-- Version 2 has a two-byte id, 3 a four-byte id, others are 9.
unfoldable pub item_id_size : ℕ → Outcome ℕ
item_id_size v = if eqb v 2 then fine 2 else if eqb v 3 then fine 4 else refused 9

-- The id, two bytes, then four of type.
unfoldable pub item : List ℕ → Outcome Item
item body = do
  v ← version body 0
  w ← item_id_size v
  i ← field body 4 w
  _ ← field body (4 + w) 2
  k ← field body (6 + w) 4
  fine (record { id = i; kind = k })

-- whether an `infe` can be read
unfoldable pub item_test : List ℕ → Outcome (Unit {0})
item_test body = item body >>= λ i. fine tt

-- Type `Exif`.
unfoldable pub is_exif : Item → Bool
is_exif i = eqb i.kind Exif

-- ---- Step 4

-- how many boxes follow, and from where
pub record Count : Type 0 where
  pub count : ℕ
  pub from : ℕ

-- A count of two bytes (version 0) or four (any other).
unfoldable pub count_size : ℕ → ℕ
count_size v = if eqb v 0 then 2 else 4

-- The version byte, then the count.
unfoldable pub info_count : List ℕ → Outcome Count
info_count body = do
  v ← version body 0
  n ← field body 4 (count_size v)
  fine (record { count = n; from = 4 + count_size v })

-- The `infe` among them are read.
unfoldable pub info_level : Level
info_level = inside (is_kind infe) item_test

-- That many boxes follow. Later bytes are ignored.
unfoldable pub infos : List ℕ → Count → Walk Box
infos body c = counted_boxes info_level body c.count c.from

-- whether an `iinf` can be read: its count, and that many boxes
unfoldable pub info_test : List ℕ → Outcome (Unit {0})
info_test body = do
  c ← info_count body
  outcome (infos body c).end

-- the boxes walked in an `iinf`
unfoldable pub info_boxes : List ℕ → List Box
info_boxes body = once (λ c. (infos body c).list) (info_count body)

-- the item of one `infe`
unfoldable pub item_in : List ℕ → Box → List Item
item_in body b = once (λ i. i ∷ []) (item (bytes_in body b.body))

-- the items of an `iinf`, in order
unfoldable pub items : List ℕ → List Item
items body = each (item_in body) (only (is infe) (info_boxes body))
