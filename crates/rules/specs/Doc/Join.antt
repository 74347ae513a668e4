-- Step 9: the extents joined. The joined bytes are a list of positions in the image.
use Rattle.std.specs.Prelude.{ℕ, suc, ◌+◌, ◌^◌, Bool, true, false, ◌&&◌, List, [], ◌∷◌, length, leb, ltb, eqb, if◌then◌else◌}
use Rattle.std.proofs.Math.Option.{Option, none, some}
use Rattle.rules.specs.Doc.Outcomes.{Outcome, fine, refused, ◌>>=◌, require, given}
use Rattle.rules.specs.Doc.Lists.{each}
use Rattle.rules.specs.Doc.Bytes.{positions, Span, size_of, bytes_in}
use Rattle.rules.specs.Doc.Walks.{ended, cut_at, refused_at, Walk, bare, walked, outcome}
use Rattle.rules.specs.Doc.Headers.{Box}
use Rattle.rules.specs.Doc.Meta.{opened}
use Rattle.rules.specs.Doc.Children.{Kept, kept}
use Rattle.rules.specs.Doc.Iloc.{Entry, Extent, extents, chosen}

-- ---- Steps 2 to 8 lead to this

-- the chosen entry, its extents, and where in the image the last `idat` is
pub record Plan : Type 0 where
  pub entry : Entry
  pub parts : List Extent
  pub idat : Option Span

-- a span of a body, as one of the image, where the body begins at `origin`
unfoldable pub moved : ℕ → Span → Span
moved origin p = record { from = origin + p.from; to = origin + p.to }

-- the same of one that may be there
unfoldable pub moved_option : ℕ → Option Span → Option Span
moved_option origin none = none
moved_option origin (some p) = some (moved origin p)

-- `iloc` is read after the children, for the wanted id.
unfoldable pub plan_of : ℕ → List ℕ → Kept → Outcome Plan
plan_of origin body k = do
  let table = bytes_in body k.iloc
  c ← chosen table k.wanted
  fine (record { entry = c.entry; parts = (extents c.sizes table c.entry).list; idat = moved_option origin k.idat })

-- from the body of `meta`, which begins at `origin`
unfoldable pub plan : ℕ → List ℕ → Outcome Plan
plan origin body = kept body >>= plan_of origin body

-- ---- The method

-- Method 0 names the image, method 1 `idat` (none: 21, even without extents), 2 is 22, 3 to 15 are 23.
unfoldable pub by_method : {A : Type 0} → A → Option A → ℕ → Outcome A
by_method image store method =
    if eqb method 0 then fine image
    else if eqb method 1 then given store 21
    else if eqb method 2 then refused 22
    else refused 23

-- Method 0 joins extents of the image, of which n bytes are there, method 1 of `idat`.
unfoldable pub source_of : ℕ → Option Span → ℕ → Outcome Span
source_of n store method = by_method (record { from = 0; to = n }) store method

-- ---- One extent

-- Length 0 means up to the end of the n bytes; past the end that is nothing.
unfoldable pub reach : ℕ → ℕ → Extent → Span
reach n base x = record { from = base + x.offset; to = if eqb x.length 0 then n else base + x.offset + x.length }

-- Method 0: a nonzero length not wholly inside the image is 2.
unfoldable pub in_image : ℕ → ℕ → Extent → Outcome Span
in_image n base x = do
  _ ← require (leb (reach n base x).to n) 2
  fine (reach n base x)

-- Method 1: plus length beyond 64 bits is 19; a part not inside `idat` is 20. With length 0 an offset past the end is 20, and exactly at the end gives
-- nothing.
unfoldable pub in_idat : ℕ → ℕ → Extent → Outcome Span
in_idat n base x = do
  _ ← require (ltb (base + x.offset + x.length) (2 ^ 64)) 19
  _ ← require (leb (base + x.offset) n && leb (reach n base x).to n) 20
  fine (reach n base x)

-- How an extent lies in the n bytes that method 0 or 1 names. Base plus offset beyond 64 bits is 18.
unfoldable pub lies : ℕ → ℕ → ℕ → Extent → Outcome Span
lies method n base x = do
  _ ← require (ltb (base + x.offset) (2 ^ 64)) 18
  if eqb method 0 then in_image n base x else in_idat n base x

-- ---- All of them

-- After each extent a total above 65,535 is 24.
unfoldable pub counted : Span → Bool → Walk Span → Walk Span
counted p true rest = walked p (bare (refused_at 24 p))
counted p false rest = walked p rest

-- an extent that is refused ends the join; `k` is its number, which the walk's end tells in the place of a position
unfoldable pub placed : ℕ → ℕ → Outcome Span → (ℕ → Walk Span) → Walk Span
placed k total (refused n) rest = bare (cut_at n k)
placed k total (fine p) rest = counted p (ltb 65535 (total + size_of p)) (rest (total + size_of p))

-- each extent in turn, the first of them being number k, after `total` bytes
unfoldable pub join : (Extent → Outcome Span) → ℕ → ℕ → List Extent → Walk Span
join place k total [] = bare ended
join place k total (x ∷ xs) = placed k total (place x) (λ total. join place (suc k) total xs)

-- where in the image a part of the source is
unfoldable pub positions_in : Span → Span → List ℕ
positions_in source p = positions (source.from + p.from) (size_of p)

-- the joined bytes of a source
unfoldable pub joined_in : Span → Plan → Outcome (List ℕ)
joined_in source p = do
  let w = join (lies p.entry.method (size_of source) p.entry.base) 0 0 p.parts
  _ ← outcome w.end
  fine (each (positions_in source) w.list)

-- those of the source that the method names, in an image of n bytes
unfoldable pub joined_by : ℕ → Plan → Outcome (List ℕ)
joined_by n p = source_of n p.idat p.entry.method >>= λ source. joined_in source p

-- from the `meta` that was opened
unfoldable pub joined_from : List ℕ → Box → Outcome (List ℕ)
joined_from img m = plan m.body.from (bytes_in img m.body) >>= joined_by (length img)

-- those of an image
unfoldable pub joined : List ℕ → Outcome (List ℕ)
joined img = opened img >>= joined_from img
