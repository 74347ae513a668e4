-- Steps 3 and 6: the children of `meta`, and what is left after them. Positions are those of the body of `meta`.
use Rattle.std.specs.Prelude.{ℕ, List}
use Rattle.std.proofs.Math.Option.{Option, none, some}
use Rattle.rules.specs.Doc.Outcomes.{Outcome, fine, ◌>>=◌, given}
use Rattle.rules.specs.Doc.Lists.{only, last_of, each}
use Rattle.rules.specs.Doc.Bytes.{Span, bytes_in}
use Rattle.rules.specs.Doc.Walks.{Walk, outcome}
use Rattle.rules.specs.Doc.Headers.{iinf, iloc, idat, Box, is_kind, is}
use Rattle.rules.specs.Doc.Levels.{Level, boxes, inside}
use Rattle.rules.specs.Doc.Meta.{meta_test}
use Rattle.rules.specs.Doc.Iinf.{Item, is_exif, info_test, items}

-- ---- Step 3

-- `iinf` is read as it is met. Other types are skipped.
unfoldable pub meta_level : Level
meta_level = inside (is_kind iinf) info_test

-- Its children go in order, after the four version bytes.
unfoldable pub children : List ℕ → Walk Box
children body = boxes meta_level body 4

-- where the body of a box is, if there is one
unfoldable pub body_in : Option Box → Option Span
body_in none = none
body_in (some b) = some b.body

-- Of `idat` and of `iloc`, the last one is kept.
unfoldable pub last_body : ℕ → List Box → Option Span
last_body k bs = body_in (last_of (only (is k) bs))

-- the items of all `iinf`, in order
unfoldable pub all_items : List ℕ → List Box → List Item
all_items body bs = each (λ b. items (bytes_in body b.body)) (only (is iinf) bs)

-- Type `Exif` sets the wanted id; the last one wins, over all `iinf`.
unfoldable pub wanted_item : List ℕ → List Box → Option Item
wanted_item body bs = last_of (only is_exif (all_items body bs))

-- ---- Step 6

-- what the children leave: the wanted id, the last `iloc`, and the last `idat` if there is one
pub record Kept : Type 0 where
  pub wanted : ℕ
  pub iloc : Span
  pub idat : Option Span

-- After the children: no wanted id is 1; no `iloc` is 16.
unfoldable pub kept_in : List ℕ → Walk Box → Outcome Kept
kept_in body w = do
  _ ← outcome w.end
  i ← given (wanted_item body w.list) 1
  t ← given (last_body iloc w.list) 16
  fine (record { wanted = i.id; iloc = t; idat = last_body idat w.list })

-- steps 2 to 6, over the body of `meta`
unfoldable pub kept : List ℕ → Outcome Kept
kept body = meta_test body >>= λ u. kept_in body (children body)
