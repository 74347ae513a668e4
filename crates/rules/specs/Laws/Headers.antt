-- Where a box lies: a header that is there whole, the box that it announces, a box of either level.
use Rattle.std.specs.Prelude.{◌≡◌, refl, ℕ, ◌+◌, ◌^◌, ◌≤◌, ◌<◌, Bool, true, false, ◌||◌, List, length, leb, ltb, eqb}
use Rattle.std.proofs.Common.{subst, arith, ltb-true, ltb-false, leb-true, ne_eqb}
use Rattle.std.proofs.Math.Option.{Option, none, some}
use Rattle.rules.specs.Doc.Outcomes.{Outcome, fine, ◌>>=◌, given}
use Rattle.rules.specs.Doc.Bytes.{number_at, size_of}
use Rattle.rules.specs.Doc.Headers.{ftyp, meta, Header, header_of, header_at, body_size, Box, box_with, is}
use Rattle.rules.specs.Doc.Headers.{whole, skips, announced, box_at, child_at, file_box_at}
use Rattle.rules.specs.Laws.Rows.{apart, bind_fine, required}

-- in n bytes, the box that a header at `at` announces: its body begins in them
pub record Begins (n at : ℕ) (b : Box) : Type 0 where
  pub starts : b.start ≡ at
  pub ahead : at + 8 ≤ b.body.from
  pub inner : b.body.from ≤ n
  pub order : b.body.from ≤ b.body.to

-- in n bytes, a whole box at `at`
pub record Inside (n at : ℕ) (b : Box) : Type 0 where
  pub starts : b.start ≡ at
  pub ahead : at + 8 ≤ b.body.from
  pub order : b.body.from ≤ b.body.to
  pub inner : b.body.to ≤ n

-- ---- A header, case by case

module _ (n at x y z : ℕ) where
  pub none_short : ltb n (at + 8) ≡ true → header_of n at x y z ≡ none
  unfolding header_of
  none_short e = rw (e, header_of)

  pub none_long : ltb n (at + 8) ≡ false → eqb x 1 ≡ true → ltb n (at + 16) ≡ true → header_of n at x y z ≡ none
  unfolding header_of
  none_long e f g = rw (e, header_of) (rw f (rw g))

  pub some_long : ltb n (at + 8) ≡ false → eqb x 1 ≡ true → ltb n (at + 16) ≡ false
      → header_of n at x y z ≡ some (record { start = at; size = x; kind = y; large = z; width = 16 })
  unfolding header_of
  some_long e f g = rw (e, header_of) (rw f (rw g))

  pub some_short : ltb n (at + 8) ≡ false → eqb x 1 ≡ false → header_of n at x y z ≡ some (record { start = at; size = x; kind = y; large = 0; width = 8 })
  unfolding header_of
  some_short e f = rw (e, header_of) (rw f)

-- a header that is there whole lies in the n bytes
abbrev pub HeaderIn : ℕ → ℕ → Option Header → Type 0
HeaderIn n at none = Unit {0}
HeaderIn n at (some h) = (h.start ≡ at) × (8 ≤ h.width) × (at + h.width ≤ n)

pub header_in_is : (n at x y z : ℕ) → HeaderIn n at (header_of n at x y z)
header_in_is n at x y z = go (ltb n (at + 8)) (eqb x 1) (ltb n (at + 16)) refl refl refl
  where
    go : (a b c : Bool) → ltb n (at + 8) ≡ a → eqb x 1 ≡ b → ltb n (at + 16) ≡ c → HeaderIn n at (header_of n at x y z)
    go true b c e f g = rw (none_short n at x y z e) tt
    go false true true e f g = rw (none_long n at x y z e f g) tt
    go false true false e f g = rw (some_long n at x y z e f g) (refl, omega arith, omega (arith, ltb-false n (at + 16) g))
    go false false c e f g = rw (some_short n at x y z e f) (refl, omega arith, omega (arith, ltb-false n (at + 8) e))

-- ---- Where a box lies

-- the box that a header announces begins in the bytes
pub begins : (cut : ℕ) (s : List ℕ) (at : ℕ) {b : Box} → fine b ≡ announced cut s at → Begins (length s) at b
unfolding announced header_at box_with
begins cut s at e = go (header_at s at) (header_in_is (length s) at (number_at s at 4) (number_at s (at + 4) 4) (number_at s (at + 8) 8)) e
  where
    go : (o : Option Header) → HeaderIn (length s) at o → {b : Box}
        → fine b ≡ (given o cut >>= λ h. body_size (length s) h >>= λ size. fine (box_with h size)) → Begins (length s) at b
    go none i e = absurd (apart e)
    go (some h) i {b} e =
        let (size, p, q) = bind_fine (body_size (length s) h) (λ size. fine (box_with h size)) e in
        let z : box_with h size ≡ b = cc in
        subst (Begins (length s) at) z (record { starts = i.0; ahead = omega arith; inner = omega arith; order = omega arith })

-- a box of a level was announced, and stood the level's test
pub passed : (cut : ℕ) (test : Box → Outcome (Unit {0})) (s : List ℕ) (at : ℕ) {b : Box} → fine b ≡ box_at cut test s at
    → (fine b ≡ announced cut s at) × (fine tt ≡ test b)
unfolding box_at
passed cut test s at {b} e =
    let (a, p, q) = bind_fine (announced cut s at) (λ b. test b >>= λ u. fine b) e in
    let (u, r, t) = bind_fine (test a) (λ u. fine a) q in
    let z : a ≡ b = cc in
    (cc, subst (λ b. fine tt ≡ test b) z r)

-- what must fit does, where it was not refused
pub whole_fits : (k n : ℕ) (b : Box) → fine tt ≡ whole k n b → b.body.to ≤ n
unfolding whole
whole_fits k n b e = leb-true b.body.to n (required (leb b.body.to n) k e)

pub child_inside : (s : List ℕ) (at : ℕ) {b : Box} → fine b ≡ child_at s at → Inside (length s) at b
unfolding child_at
child_inside s at {b} e =
    let (p, q) = passed 3 (whole 3 (length s)) s at e in
    let i = begins 3 s at p in
    record { starts = i.starts; ahead = i.ahead; order = i.order; inner = whole_fits 3 (length s) b q }

pub file_begins : (s : List ℕ) (at : ℕ) {b : Box} → fine b ≡ file_box_at s at → Begins (length s) at b
unfolding file_box_at
file_begins s at e = begins 2 s at (passed 2 skips s at e).0

-- a box of a file that is skipped is not too large for that
pub file_small : (s : List ℕ) (at : ℕ) {b : Box} → fine b ≡ file_box_at s at → (b.kind ≡ ftyp → ⊥) → (b.kind ≡ meta → ⊥) → size_of b.body < 2 ^ 63
unfolding file_box_at skips
file_small s at {b} e f m =
    let p = (passed 2 skips s at e).1 in
    let q = required (is ftyp b || is meta b || ltb (size_of b.body) (2 ^ 63)) 5 p in
    ltb-true (size_of b.body) (2 ^ 63) (rw (ne_eqb b.kind ftyp f, ne_eqb b.kind meta m) at q)
