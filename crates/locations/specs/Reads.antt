-- The parts of a definition that have a function of their own, and what the check doesn't find by unfolding a definition.
use Rattle.std.specs.Prelude.{◌≡◌, Bool, List, ℕ, ◌+◌, ◌-◌, ◌*◌, ◌^◌, ◌≤◌, ◌<◌, length, leb, eqb, if◌then◌else◌}
use Rattle.std.proofs.Math.Path.{refl}
use Rattle.std.proofs.Common.{mul-le-mul, le_of_lt, arith}
use Rattle.std.proofs.Math.Bool.{true, false}
use Rattle.std.proofs.Math.Nat.{zero-mul, add-zero}
use Rattle.std.proofs.Math.Option.{Option, some}
use borrow.Author.Tests.{le-leb, eq-eqb, ne_eqb}
use Rattle.rules.specs.Doc.Outcomes.{Outcome, fine, ◌>>=◌, require}
use Rattle.rules.specs.Doc.Bytes.{field, sized}
use Rattle.rules.specs.Doc.Iloc.{Table, id_size, sizes_of, base_size_of, Entry, entry_at}
use Rattle.rules.specs.Doc.Iloc.{extent_at, extents, is_wanted, entry_end, extents_test, entry_next, Chosen}
use Rattle.rules.specs.Doc.Walks.{outcome, run, bare}
use Rattle.rules.specs.Laws.Rows.{bind_assoc}
use Rattle.rules.specs.Laws.Endian.{Bytes}
use Rattle.rules.specs.Laws.Numbers.{number_below}
use Rattle.rules.specs.Laws.Fields.{field_stands}
use Rattle.rules.specs.Laws.Extents.{first_decides}
use Rattle.rules.specs.Laws.Entries.{chosen_from, entry_passed}

-- ---- The parts of a definition that have a function of their own

-- of `table_of`, from the count of entries on
unfoldable pub table_from : List ℕ → ℕ → ℕ → Outcome Table
table_from body v halves = do
  n ← field body 6 (id_size v)
  fine (record { version = v; sizes = sizes_of v halves; base_size = base_size_of halves; count = n; from = 6 + id_size v })

-- of `entry_at`, from the base offset on
unfoldable pub based : List ℕ → ℕ → ℕ → ℕ → ℕ → Outcome Entry
based body size i m at = do
  b ← sized body at size 11
  n ← field body (at + size) 2
  fine (record { id = i; method = m; base = b; count = n; from = at + size + 2 })

-- an entry's extents, skipped
unfoldable pub skipped : Table → List ℕ → Entry → Outcome ℕ
skipped t body e = require (leb (entry_end t e) (length body)) 3 >>= λ u. fine (entry_end t e)

-- two bytes make a number of 16 bits
pub halves_fit : (s : List ℕ) (at : ℕ) {v : ℕ} → Bytes s → fine v ≡ field s at 2 → v < 65536
halves_fit s at {v} b e = omega (arith, (field_stands s at 2 e).is, number_below s at 2 b)

-- ---- Where an entry's extents end

-- the bytes of the extents fit 64 bits
pub skip_room : {n w : ℕ} → n < 65536 → w < 48 → n * w < 2 ^ 64
skip_room {n} {w} h k = let p : n * w ≤ 65536 * 48 = mul-le-mul (le_of_lt h) (le_of_lt k) in omega arith

module _ (t : Table) (body : List ℕ) (e : Entry) (wanted : ℕ) where
  -- of another item
  pub next_other : {o : Outcome ℕ} → (e.id ≡ wanted → ⊥) → o ≡ skipped t body e → o ≡ entry_next t body wanted e
  unfolding skipped entry_next extents_test is_wanted
  next_other h k = rw (ne_eqb e.id wanted h) k

  -- without an extent, of whichever item
  pub next_none : e.from ≤ length body → e.count ≡ 0 → fine e.from ≡ entry_next t body wanted e
  unfolding entry_next extents_test is_wanted extents run bare outcome entry_end
  next_none k h = rw (h, zero-mul, add-zero, le-leb e.from (length body) k) (go (eqb e.id wanted))
    where
      go : (t : Bool) → fine e.from ≡ ((if t then fine (tt {0}) else fine tt) >>= λ u. fine e.from)
      go true = refl
      go false = refl

  -- of the wanted item: the first extent decides
  pub next_wanted : e.id ≡ wanted → (e.count ≡ 0 → ⊥) → entry_next t body wanted e ≡ (extent_at t.sizes body e.from >>= λ x. skipped t body e)
  unfolding entry_next extents_test is_wanted extents skipped entry_end
  next_wanted same more = rw (eq-eqb e.id wanted same, first_decides t.sizes body e.count e.from more) (bind_assoc (extent_at t.sizes body e.from) _ _)

-- ---- Entries one after another: a wanted one takes the place of the last one before it, another leaves it

module _ (t : Table) (body : List ℕ) (wanted n i at : ℕ) (last : Option Entry) {answer : Outcome Chosen}
    (inv : chosen_from t body wanted last (n - i) at ≡ answer) (h : i < n)
    {e : Entry} (read : fine e ≡ entry_at t body at) {next : ℕ} (past : fine next ≡ entry_next t body wanted e) where
  pub last_taken : e.id ≡ wanted → chosen_from t body wanted (some e) (n - (i + 1)) next ≡ answer
  unfolding is_wanted
  last_taken same = entry_passed t body wanted n i at last inv h read past refl (rw (eq-eqb e.id wanted same))

  pub last_left : (e.id ≡ wanted → ⊥) → chosen_from t body wanted last (n - (i + 1)) next ≡ answer
  unfolding is_wanted
  last_left other = entry_passed t body wanted n i at last inv h read past refl (rw (ne_eqb e.id wanted other))
