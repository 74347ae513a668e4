-- Steps 7 and 8: `iloc`, its entries, and the extents of the chosen one.
use Rattle.std.specs.Prelude.{ℕ, ◌+◌, ◌*◌, ◌/◌, ◌%◌, Bool, not, ◌||◌, List, length, leb, eqb, if◌then◌else◌}
use Rattle.rules.specs.Doc.Outcomes.{Outcome, fine, refused, ◌>>=◌, require, given}
use Rattle.rules.specs.Doc.Lists.{only, last_of}
use Rattle.rules.specs.Doc.Bytes.{field, sized, version}
use Rattle.rules.specs.Doc.Walks.{onward, Step, cut, met, Walk, run, outcome}

-- ---- Step 7

-- the sizes of an extent's three numbers
pub record Sizes : Type 0 where
  pub index : ℕ
  pub offset : ℕ
  pub length : ℕ

-- the head of an `iloc`: its version and sizes, how many entries follow, and from where
pub record Table : Type 0 where
  pub version : ℕ
  pub sizes : Sizes
  pub base_size : ℕ
  pub count : ℕ
  pub from : ℕ

-- Two bytes for versions 0 and 1, four for 2: the count, and each entry's id.
unfoldable pub id_size : ℕ → ℕ
id_size v = if eqb v 2 then 4 else 2

-- Two bytes with four half-bytes: sizes of offset, length, base offset, index (index is 0 for version 0).
unfoldable pub sizes_of : ℕ → ℕ → Sizes
sizes_of v halves = record { index = if eqb v 0 then 0 else halves % 16; offset = halves / 4096; length = halves / 256 % 16 }

-- the third half-byte
unfoldable pub base_size_of : ℕ → ℕ
base_size_of halves = halves / 16 % 16

-- The two size bytes are read before the version is judged. Other versions 10.
unfoldable pub table_of : List ℕ → Outcome Table
table_of body = do
  v ← version body 0
  halves ← field body 4 2
  _ ← require (leb v 2) 10
  n ← field body 6 (id_size v)
  fine (record { version = v; sizes = sizes_of v halves; base_size = base_size_of halves; count = n; from = 6 + id_size v })

-- ---- Step 8: an entry

-- For versions 1 and 2 two bytes whose low half-byte is the construction method, else method 0.
unfoldable pub method_size : ℕ → ℕ
method_size v = if eqb v 0 then 0 else 2

-- Two bytes of data reference, nonzero with method 0 is 15, for any item.
unfoldable pub in_file : ℕ → ℕ → Bool
in_file method ref = not (eqb method 0) || eqb ref 0

-- an entry: its numbers, how many extents follow, and from where
pub record Entry : Type 0 where
  pub id : ℕ
  pub method : ℕ
  pub base : ℕ
  pub count : ℕ
  pub from : ℕ

-- Id, method, data reference, base offset (another size is 11, for any item), two bytes of extent count.
unfoldable pub entry_at : Table → List ℕ → ℕ → Outcome Entry
entry_at t body at = do
  let methodAt = at + id_size t.version
  let ref_at = methodAt + method_size t.version
  let base_at = ref_at + 2
  let countAt = base_at + t.base_size
  i ← field body at (id_size t.version)
  m ← field body methodAt (method_size t.version)
  r ← field body ref_at 2
  _ ← require (in_file (m % 16) r) 15
  b ← sized body base_at t.base_size 11
  n ← field body countAt 2
  fine (record { id = i; method = m % 16; base = b; count = n; from = countAt + 2 })

-- ---- Step 8: extents

-- an extent, counted from the base offset; its index has no further use
pub record Extent : Type 0 where
  pub offset : ℕ
  pub length : ℕ

-- The sum of the three sizes.
unfoldable pub extent_width : Sizes → ℕ
extent_width z = z.index + z.offset + z.length

-- Each extent has index (12), offset (13), length (14), in that order, sizes 0, 4 or 8.
unfoldable pub extent_at : Sizes → List ℕ → ℕ → Outcome Extent
extent_at z body at = do
  _ ← sized body at z.index 12
  o ← sized body (at + z.index) z.offset 13
  l ← sized body (at + z.index + z.offset) z.length 14
  fine (record { offset = o; length = l })

-- an extent that was read leads to the next
unfoldable pub extent_met : ℕ → Outcome Extent → Step Extent
extent_met next (fine x) = met x (fine (onward next))
extent_met next (refused n) = cut n

-- the extents of an entry, as many as it says
unfoldable pub extents : Sizes → List ℕ → Entry → Walk Extent
extents z body e = run (λ at. extent_met (at + extent_width z) (extent_at z body at)) e.count e.from

-- ---- Step 8: all entries

-- whether an entry is of the wanted id
unfoldable pub is_wanted : ℕ → Entry → Bool
is_wanted wanted e = eqb e.id wanted

-- Where the extents end: their bytes are extent count times the sum of the three sizes.
unfoldable pub entry_end : Table → Entry → ℕ
entry_end t e = e.from + e.count * extent_width t.sizes

-- The extents of the wanted id are read; another id's bytes are skipped, sizes unjudged.
unfoldable pub extents_test : Table → List ℕ → ℕ → Entry → Outcome (Unit {0})
extents_test t body wanted e =
    if is_wanted wanted e then outcome (extents t.sizes body e).end else require (leb (entry_end t e) (length body)) 3

-- where the next entry is
unfoldable pub entry_next : Table → List ℕ → ℕ → Entry → Outcome ℕ
entry_next t body wanted e = extents_test t body wanted e >>= λ u. fine (entry_end t e)

-- an entry that was read leads to the next, unless its extents are refused
unfoldable pub entry_met : Table → List ℕ → ℕ → Outcome Entry → Step Entry
entry_met t body wanted (fine e) = met e (entry_next t body wanted e >>= λ next. fine (onward next))
entry_met t body wanted (refused n) = cut n

-- All entries are read.
unfoldable pub entries : Table → List ℕ → ℕ → Walk Entry
entries t body wanted = run (λ at. entry_met t body wanted (entry_at t body at)) t.count t.from

-- the entry that was chosen, and the sizes by which its extents are read again
pub record Chosen : Type 0 where
  pub sizes : Sizes
  pub entry : Entry

-- The last wanted entry wins. None is 17.
unfoldable pub chosen_in : Table → List ℕ → ℕ → Outcome Chosen
chosen_in t body wanted = do
  _ ← outcome (entries t body wanted).end
  e ← given (last_of (only (is_wanted wanted) (entries t body wanted).list)) 17
  fine (record { sizes = t.sizes; entry = e })

-- steps 7 and 8, over the body of `iloc`
unfoldable pub chosen : List ℕ → ℕ → Outcome Chosen
chosen body wanted = table_of body >>= λ t. chosen_in t body wanted
