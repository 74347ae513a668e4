-- Why no image gives 27 on a 64-bit target. The Rust has four messages for a value that a `usize` can't hold, and asks in five places:
--
--   read_file_level_box    "Box is larger than the address space"    the size of a body                             body-small
--   child_box              the same                                  the eight-byte size                            header-small
--   parse_meta, method 0   "Extent too large"                        the length of an extent                        extent-small
--   parse_meta, method 1   "Offset too large"                        base plus offset, which 18 was asked of        offset-small
--   parse_meta, method 1   "Length too large"                        that plus the length, which 19 was asked of    end-small
--
-- A size or a length stands in at most eight bytes (number_small), or is what is left of the bytes. A sum was held against 64 bits by 18 or 19. So each
-- value is below 2^64.
use Rattle.std.specs.Prelude.{◌≡◌, refl, ℕ, suc, ◌+◌, ◌^◌, ◌≤◌, ◌<◌, List, length, leb, ltb, eqb}
use Rattle.std.proofs.Common.{subst, arith, lt_of_lt_of_le, inl, inr, length-take, length-drop, lit<}
use Rattle.std.proofs.Math.Decide.{dec_le}
use Rattle.std.proofs.Math.Nat.{pow-le-pow_right}
use Rattle.std.proofs.Math.Option.{Option, none, some}
use Rattle.std.proofs.Math.ListN.{get_or-eq_default}
use Rattle.rules.specs.Doc.Outcomes.{Outcome, fine, refused}
use Rattle.rules.specs.Doc.Bytes.{byte_at, number_at, part, Span, size_of, bytes_in, sized}
use Rattle.rules.specs.Doc.Headers.{Header, header_of, header_at, body_size, Box, box_with}
use Rattle.rules.specs.Doc.Levels.{Level, decided, box_step, level_step, boxes, counted_boxes}
use Rattle.rules.specs.Doc.Iloc.{Sizes, Entry, Extent, extent_width, extent_at, extent_met, extents}
use Rattle.rules.specs.Doc.Join.{in_idat, lies}
use Rattle.rules.specs.Laws.Rows.{bind_fine, by_test}
use Rattle.rules.specs.Laws.Endian.{Bytes}
use Rattle.rules.specs.Laws.Numbers.{number_below}
use Rattle.rules.specs.Laws.Agreement.{part_at}
use Rattle.rules.specs.Laws.Fields.{Is048, sized_stands}
use Rattle.rules.specs.Laws.Places.{place_18, idat_19}
use Rattle.rules.specs.Laws.Lies.{All}
use Rattle.rules.specs.Laws.Walked.{Meets, run_all}

-- bytes that a slice of the target can hold
pub record Slice (s : List ℕ) : Type 0 where
  pub bytes : Bytes s
  pub small : length s < 2 ^ 64

-- ---- A body is a slice too, so that the laws below hold inside every box

part_bytes : (s : List ℕ) (from n : ℕ) → Bytes s → Bytes (part s from n)
part_bytes s from n b k =
    elim (dec_le (suc k) n) [
      | yes h ↦ rw (part_at s from n k h) (b (from + k))
      | no h ↦
          let e : byte_at (part s from n) k ≡ 0 = get_or-eq_default (part s from n) 0 (simp (length-take, length-drop) (omega arith)) in
          rw e (record { fits = lit< tt })
    ]

pub part_slice : (s : List ℕ) (p : Span) → Slice s → Slice (bytes_in s p)
unfolding bytes_in
part_slice s p g =
    by_test Slice (leb p.to (length s))
    (λ e. record { bytes = part_bytes s p.from (size_of p) g.bytes; small = simp (length-take, length-drop) (omega (arith, g.small)) })
    (λ e. record { bytes = λ k. record { fits = lit< tt }; small = lit< tt })

-- ---- A number of at most eight bytes

number_small : (s : List ℕ) (at n : ℕ) → Bytes s → n ≤ 8 → number_at s at n < 2 ^ 64
number_small s at n b h = lt_of_lt_of_le (number_below s at n b) (pow-le-pow_right {n = 256} (lit< tt) h)

-- ---- The size of a box

-- what is known of a header that is there whole
abbrev SmallSizes : Option Header → Type 0
SmallSizes none = Unit {0}
SmallSizes (some h) = (h.size < 2 ^ 64) × (h.large < 2 ^ 64)

pub header_small : (s : List ℕ) (at : ℕ) → Bytes s → SmallSizes (header_at s at)
unfolding header_at header_of
header_small s at b =
    let four : number_at s at 4 < 2 ^ 64 = number_small s at 4 b (omega arith) in
    let eight : number_at s (at + 8) 8 < 2 ^ 64 = number_small s (at + 8) 8 b (omega arith) in
    by_test SmallSizes (ltb (length s) (at + 8)) (λ e. tt)
    (λ e. by_test SmallSizes (eqb (number_at s at 4) 1) (λ e. by_test SmallSizes (ltb (length s) (at + 16)) (λ e. tt) (λ e. (four, eight))) (λ e. (four, lit< tt)))

-- a size that was decided on
abbrev pub Below : Outcome ℕ → Type 0
Below (fine size) = size < 2 ^ 64
Below (refused n) = Unit {0}

decided_small : (n : ℕ) (h : Header) → n < 2 ^ 64 → h.size < 2 ^ 64 → h.large < 2 ^ 64 → Below (body_size n h)
unfolding body_size
decided_small n h k i j =
    by_test Below (eqb h.size 0) (λ e. omega arith)
    (λ e. by_test Below (eqb h.size 1) (λ e. by_test Below (ltb h.large 16) (λ e. tt) (λ e. omega arith))
    (λ e. by_test Below (ltb h.size 8) (λ e. tt) (λ e. omega arith)))

pub body_small : (s : List ℕ) (at : ℕ) → Slice s → {h : Header} → header_at s at ≡ some h → Below (body_size (length s) h)
body_small s at g {h} e =
    let i : SmallSizes (some h) = subst SmallSizes e (header_small s at g.bytes) in
    decided_small (length s) h g.small i.0 i.1

-- ---- The boxes walked

abbrev pub SmallBox : Box → Type 0
SmallBox b = size_of b.body < 2 ^ 64

box_small : (h : Header) (o : Outcome ℕ) → Below o → SmallBox (box_with h (decided o))
unfolding box_with decided
box_small h (fine size) k = omega arith
box_small h (refused n) k = let z : 0 < 2 ^ 64 = lit< tt in omega arith

module _ (l : Level) (s : List ℕ) (g : Slice s) where
  step_small : (at : ℕ) (o : Option Header) → header_at s at ≡ o → Meets SmallBox (box_step l s o)
  unfolding box_step
  step_small at none e = tt
  step_small at (some h) e = box_small h (body_size (length s) h) (body_small s at g e)

  level_small : (at : ℕ) → Meets SmallBox (level_step l s at)
  unfolding level_step
  level_small at = by_test (Meets SmallBox) (leb (length s) at) (λ e. tt) (λ e. step_small at (header_at s at) refl)

  pub boxes_small : (at : ℕ) → All SmallBox (boxes l s at).list
  unfolding boxes
  boxes_small at = run_all SmallBox (level_step l s) level_small (length s) at

  pub counted_small : (n at : ℕ) → All SmallBox (counted_boxes l s n at).list
  unfolding counted_boxes
  counted_small n at = run_all SmallBox (λ at. box_step l s (header_at s at)) (λ at. step_small at (header_at s at) refl) n at

-- ---- The extents read

abbrev pub SmallExtent : Extent → Type 0
SmallExtent x = x.length < 2 ^ 64

pub extent_small : (z : Sizes) (body : List ℕ) → Bytes body → (at : ℕ) {x : Extent} → fine x ≡ extent_at z body at → SmallExtent x
unfolding extent_at
extent_small z body b at {x} e =
    let (i, p, e₁) = bind_fine (sized body at z.index 12) _ e in
    let (o, q, e₂) = bind_fine (sized body (at + z.index) z.offset 13) _ e₁ in
    let (l, r, e₃) = bind_fine (sized body (at + z.index + z.offset) z.length 14) _ e₂ in
    let k : x.length ≡ l = cc in
    let (w, stands) = sized_stands body (at + z.index + z.offset) z.length 14 r in
    rw (k, stands.is) (number_small body (at + z.index + z.offset) z.length b (at_most w))
  where
    at_most : {w : ℕ} → Is048 w → w ≤ 8
    at_most (inl e) = omega arith
    at_most (inr (inl e)) = omega arith
    at_most (inr (inr e)) = omega arith

extent_met_is : (next : ℕ) (o : Outcome Extent) → ((x : Extent) → fine x ≡ o → SmallExtent x) → Meets SmallExtent (extent_met next o)
unfolding extent_met
extent_met_is next (fine x) h = h x refl
extent_met_is next (refused n) h = tt

pub extents_small : (z : Sizes) (body : List ℕ) (e : Entry) → Bytes body → All SmallExtent (extents z body e).list
unfolding extents
extents_small z body e b = run_all SmallExtent _ (λ at. extent_met_is (at + extent_width z) (extent_at z body at) (λ x. extent_small z body b at)) e.count e.from

-- ---- Where an extent lies

-- as 18 isn't given
pub offset_small : (method n base : ℕ) (x : Extent) → (refused 18 ≡ lies method n base x → ⊥) → base + x.offset < 2 ^ 64
offset_small method n base x h = elim (dec_le (2 ^ 64) (base + x.offset)) [
  | yes k ↦ absurd (h (place_18 n base x method k))
  | no k ↦ omega arith
]

-- as 19 isn't
pub end_small : (n base : ℕ) (x : Extent) → (refused 19 ≡ in_idat n base x → ⊥) → base + x.offset + x.length < 2 ^ 64
end_small n base x h = elim (dec_le (2 ^ 64) (base + x.offset + x.length)) [
  | yes k ↦ absurd (h (idat_19 n base x k))
  | no k ↦ omega arith
]
