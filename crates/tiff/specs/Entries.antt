-- Where the entries of a directory lie, and its entries one after another up to the first with a tag.
use Rattle.std.specs.Prelude.{◌≡◌, List, length, leb, Result, Ok}
use Rattle.std.proofs.Math.Path.{refl}
use Rattle.std.proofs.Math.Option.{Option, none, some}
use Prim.Native.Nat.{ℕ, suc, ◌+◌, ◌-◌, ◌*◌, ◌≤◌, ◌<◌}
use native.Mathlib.Omega.{arith}
use borrow.Author.Tests.{leb-true, eq-eqb, ne_eqb}
use Rattle.rules.specs.Doc.Outcomes.{fine, require}
use Rattle.rules.specs.Doc.Lists.{only, first_of}
use Rattle.rules.specs.Doc.Endian.{Endian, number_in}
use Rattle.rules.specs.Laws.Rows.{bind_fine, required}
use Rattle.capture_rules.specs.Doc.Directory.{Entry, entry_at, entries, Directory, directory, first_with, find}
use Rattle.tiff.specs.Told.{directory_of}
use Rattle.tiff.specs.declared.fault.Fault.{Fault}
use Rattle.tiff.specs.declared.directory.Directory as code

-- a directory that is read has its entries inside the block
pub directory_inside : (e : Endian) (b : List ℕ) (at : ℕ) {d : Directory} → fine d ≡ directory e b at → d.from + 12 * d.count ≤ length b
unfolding directory
directory_inside e b at {d} f =
    let count = number_in e b at 2 in
    let (u, p, g) = bind_fine (require (leb (at + 2) (length b)) 35) _ f in
    let (v, q, h) = bind_fine (require (leb (at + 2 + 12 * count) (length b)) 35) _ g in
    let i : at + 2 + 12 * count ≤ length b = leb-true _ _ (required _ 35 q) in
    let k : fine d ≡ fine (record { from = at + 2; count = count }) = h in
    go k i
  where
    go : {x : Directory} → fine d ≡ fine x → x.from + 12 * x.count ≤ length b → d.from + 12 * d.count ≤ length b
    go {x} k i = let z : d ≡ x = cc in rw z i

-- the same of an answer of `read_directory`
pub entries_inside : (e : Endian) (b : List ℕ) (at : ℕ) {r : Result code.Directory Fault} {d : code.Directory}
    → directory_of r ≡ directory e b at → r ≡ Ok d → d.from + 12 * d.count ≤ length b
entries_inside e b at f g = directory_inside e b at (rw g at f)

-- ---- Entries, up to the first with a tag

-- the answer of n entries from a position on
abbrev pub find_from : Endian → List ℕ → ℕ → ℕ → ℕ → Option Entry
find_from e b tag at n = find e b (record { from = at; count = n }) tag

-- in a loop over entries: `o` is the answer of all of them, and the `n` from `at` on decide it
module _ (e : Endian) (b : List ℕ) (tag at n : ℕ) {o : Option Entry} (inv : find_from e b tag at n ≡ o) where
  pub find_none : n ≤ 0 → none ≡ o
  unfolding find first_with entries only first_of
  find_none h =
      let k : n ≡ 0 = omega arith in
      rw k at inv

  -- the tag of the entry there
  module _ (h : 0 < n) {t : ℕ} (is : t ≡ number_in e b at 2) where
    pub find_here : t ≡ tag → {kind count place : ℕ}
        → kind ≡ number_in e b (at + 2) 2 → count ≡ number_in e b (at + 4) 4 → place ≡ number_in e b (at + 8) 4
        → some (record { tag = tag; kind = kind; count = count; place = place }) ≡ o
    unfolding find first_with entries entry_at only first_of
    find_here s p q r =
        let k : n ≡ suc (n - 1) = omega arith in
        rw (k, ← is, s, eq-eqb tag tag refl, ← p, ← q, ← r) at inv

    pub find_later : (t ≡ tag → ⊥) → {next rest : ℕ} → next ≡ at + 12 → rest ≡ n - 1 → find_from e b tag next rest ≡ o
    unfolding find first_with entries entry_at only first_of
    find_later d f g =
        let k : n ≡ suc (n - 1) = omega arith in
        rw (k, ← is, ne_eqb t tag d, ← f, ← g) at inv
