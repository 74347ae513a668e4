-- Steps 9 and 10 over bytes, as a program does them, where document 01's definitions have positions in the image: the two say the same.
use Rattle.std.specs.Prelude.{◌≡◌, take, leb, ltb, if◌then◌else◌}
use Rattle.std.proofs.Math.Path.{refl, ap}
use Rattle.std.proofs.Common.{sym, ◌∙◌, zero-add, drop-cons}
use Prim.Native.Nat.{ℕ, zero, suc, ◌+◌, ◌-◌, ◌≤◌, ◌<◌}
use native.Mathlib.Omega.{arith}
use Rattle.std.proofs.Math.Bool.{Bool, true, false}
use mathlib.Core.List.{List, [], ◌∷◌, ◌++◌, map}
use Rattle.std.proofs.Math.ListN.{length, drop}
use Rattle.std.proofs.lemmas.List.{length-map}
use Rattle.rules.specs.Doc.Outcomes.{Outcome, fine, refused, ◌>>=◌, require, once}
use Rattle.rules.specs.Doc.Lists.{each}
use Rattle.rules.specs.Doc.Bytes.{byte_at, number_at, part, positions, Span, size_of, bytes_in}
use Rattle.rules.specs.Doc.Walks.{Walk, bare, walked, outcome}
use Rattle.rules.specs.Doc.Meta.{opened}
use Rattle.rules.specs.Doc.Iloc.{Extent}
use Rattle.rules.specs.Doc.Join.{Plan, plan, source_of, lies, counted, placed, join, positions_in, joined_in, joined_by, joined_from, joined}
use Rattle.rules.specs.Doc.Block.{bytes_at, first_four, block_after, block_in, block}
use Rattle.rules.specs.Doc.Answers.{Answer, handed, answer_with, answer_by, answer}
use Rattle.rules.specs.OverBytes.{part_of, gathered, added, total_from, block_of, block_from, block_bytes, answer_of, refusal}
use Rattle.rules.specs.Laws.Agreement.{part_at}
use Rattle.rules.specs.Laws.Numbers.{bytes_in_is}
use Rattle.rules.specs.Laws.Lies.{part_size, source_lies}
use Rattle.rules.specs.Laws.Places.{EndsIn, lies_inside}

pub answer_refused : (n : ℕ) (out : List ℕ) {o : Outcome (List ℕ)} → refused n ≡ o → refusal n out ≡ answer_of out o
unfolding answer_of answer_with
answer_refused n out e = rw (← e)

-- ---- The two views

-- what is made of a step that went well
abbrev pub on_fine : {A B : Type 0} → (A → B) → Outcome A → Outcome B
on_fine f (fine x) = fine (f x)
on_fine f (refused n) = refused n

-- ---- The join

map_append : (f : ℕ → ℕ) (a b : List ℕ) → map f (a ++ b) ≡ map f a ++ map f b
map_append f [] b = refl
map_append f (x ∷ a) b = ap (λ (l : List ℕ). f x ∷ l) (map_append f a b)

map_drop : (f : ℕ → ℕ) (n : ℕ) (a : List ℕ) → map f (drop n a) ≡ drop n (map f a)
map_drop f zero a = refl
map_drop f (suc n) [] = refl
map_drop f (suc n) (x ∷ a) = map_drop f n a

-- s is what stands in the image from a position on
abbrev StandsFrom : List ℕ → ℕ → List ℕ → Type 0
StandsFrom img origin s = (i : ℕ) → i < length s → byte_at s i ≡ byte_at img (origin + i)

module _ (img : List ℕ) (source : Span) (s : List ℕ) (stands : StandsFrom img source.from s) where
  positions_bytes : (from n : ℕ) → from + n ≤ length s → bytes_at img (positions (source.from + from) n) ≡ part s from n
  unfolding bytes_at positions
  positions_bytes from zero h = refl
  positions_bytes from (suc n) h =
      let k : suc (source.from + from) ≡ source.from + suc from = omega arith in
      rw (drop-cons s from 0 (omega arith), k, positions_bytes (suc from) n (omega arith), stands from (omega arith))

  -- a part may begin past the end, and is empty then
  part_bytes : (p : Span) → p.to ≤ length s → bytes_at img (positions_in source p) ≡ part_of s (fine p)
  unfolding part_of positions_in bytes_at positions
  part_bytes p h = go (p.to - p.from) refl
    where
      go : (n : ℕ) → p.to - p.from ≡ n → bytes_at img (positions (source.from + p.from) n) ≡ part s p.from n
      go zero e = refl
      go (suc n) e = positions_bytes p.from (suc n) (omega arith)

  -- a part in front of what follows, over positions and over bytes
  front_positions : (a l : List ℕ) (o : Outcome (Unit {0}))
      → on_fine (bytes_at img) (o >>= λ u. fine (a ++ l)) ≡ on_fine (λ k. bytes_at img a ++ k) (on_fine (bytes_at img) (o >>= λ u. fine l))
  unfolding bytes_at
  front_positions a l (fine u) = ap fine (map_append (byte_at img) a l)
  front_positions a l (refused n) = refl

  front_bytes : (a l : List ℕ) (o : Outcome ℕ) → on_fine (λ k. a ++ k) (o >>= λ t. fine l) ≡ (o >>= λ t. fine (a ++ l))
  front_bytes a l (fine t) = refl
  front_bytes a l (refused n) = refl

  module _ (place : Extent → Outcome Span) (inside : (x : Extent) → EndsIn (length s) (place x)) where
    abbrev positions_of : Walk Span → Outcome (List ℕ)
    positions_of w = on_fine (bytes_at img) (outcome w.end >>= λ u. fine (each (positions_in source) w.list))

    counted_bytes : (p : Span) → p.to ≤ length s → (total : ℕ) (xs : List Extent) (t : Bool) (w : Walk Span)
        → positions_of w ≡ (total_from place total xs >>= λ t. fine (gathered place s xs))
        → positions_of (counted p t w) ≡ (((if t then refused 24 else fine total) >>= λ t. total_from place t xs) >>= λ t. fine (part_of s (fine p) ++ gathered place s xs))
    unfolding counted walked bare outcome each
    counted_bytes p h total xs true w e = refl
    counted_bytes p h total xs false w e =
        front_positions (positions_in source p) (each (positions_in source) w.list) (outcome w.end)
        ∙ rw (e, part_bytes p h) (front_bytes (part_of s (fine p)) (gathered place s xs) (total_from place total xs))

    placed_bytes : (k total : ℕ) (x : Extent) (xs : List Extent) (o : Outcome Span) → place x ≡ o → (rest : ℕ → Walk Span)
        → ((t : ℕ) → positions_of (rest t) ≡ (total_from place t xs >>= λ t. fine (gathered place s xs)))
        → positions_of (placed k total o rest) ≡ ((added total o >>= λ t. total_from place t xs) >>= λ t. fine (part_of s o ++ gathered place s xs))
    unfolding placed added bare outcome
    placed_bytes k total x xs (refused n) e rest later = refl
    placed_bytes k total x xs (fine p) e rest later =
        counted_bytes p (inside x p e) (total + size_of p) xs (ltb 65535 (total + size_of p)) (rest (total + size_of p)) (later (total + size_of p))

    join_bytes : (k total : ℕ) (xs : List Extent) → positions_of (join place k total xs) ≡ (total_from place total xs >>= λ t. fine (gathered place s xs))
    unfolding join total_from gathered each bare outcome bytes_at
    join_bytes k total [] = refl
    join_bytes k total (x ∷ xs) = placed_bytes k total x xs (place x) refl (λ t. join place (suc k) t xs) (λ t. join_bytes (suc k) t xs)

-- of the image itself
pub image_bytes : (img : List ℕ) (from n : ℕ) → from + n ≤ length img → bytes_at img (positions from n) ≡ part img from n
image_bytes img from n h =
    ap (λ (at : ℕ). bytes_at img (positions at n)) (sym (zero-add from))
    ∙ positions_bytes img (record { from = 0; to = length img }) img (λ i k. ap (byte_at img) (sym (zero-add i))) from n h

-- ---- The block

module _ (img : List ℕ) where
  after_bytes : (offset : ℕ) (ps : List ℕ) → on_fine (bytes_at img) (block_after offset ps) ≡ block_after offset (bytes_at img ps)
  unfolding block_after bytes_at
  after_bytes offset ps = rw (length-map ps (byte_at img)) (go (leb 4 (length ps)) (leb offset (length ps - 4)))
    where
      go : (t₁ t₂ : Bool) → on_fine (map (byte_at img)) (require t₁ 25 >>= λ u. require t₂ 26 >>= λ v. fine (drop (4 + offset) ps))
          ≡ (require t₁ 25 >>= λ u. require t₂ 26 >>= λ v. fine (drop (4 + offset) (map (byte_at img) ps)))
      go true true = ap fine (map_drop (byte_at img) (4 + offset) ps)
      go true false = refl
      go false t₂ = refl

  four_bytes : (ps : List ℕ) → number_at (bytes_at img (take 4 ps)) 0 4 ≡ number_at (bytes_at img ps) 0 4
  unfolding number_at bytes_at
  four_bytes [] = refl
  four_bytes (a ∷ []) = refl
  four_bytes (a ∷ b ∷ []) = refl
  four_bytes (a ∷ b ∷ c ∷ []) = refl
  four_bytes (a ∷ b ∷ c ∷ d ∷ ps) = refl

  -- under 4 bytes the offset isn't asked
  offset_bytes_is : (ps : List ℕ) → block_in img ps ≡ block_after (number_at (bytes_at img ps) 0 4) ps
  unfolding block_in first_four block_after
  offset_bytes_is ps = go (leb 4 (length ps))
    where
      after : Bool → ℕ → Outcome (List ℕ)
      after t offset = require t 25 >>= λ u. require (leb offset (length ps - 4)) 26 >>= λ v. fine (drop (4 + offset) ps)

      go : (t : Bool) → after t (number_at (bytes_at img (if t then take 4 ps else [])) 0 4) ≡ after t (number_at (bytes_at img ps) 0 4)
      go true = rw (four_bytes ps)
      go false = refl

  block_bytes_is : (ps : List ℕ) → on_fine (bytes_at img) (block_in img ps) ≡ block_of (bytes_at img ps)
  unfolding block_of
  block_bytes_is ps = rw (offset_bytes_is ps) (after_bytes (number_at (bytes_at img ps) 0 4) ps)

  then_block : (o : Outcome (List ℕ)) → on_fine (bytes_at img) (o >>= block_in img) ≡ (on_fine (bytes_at img) o >>= block_of)
  then_block (fine ps) = block_bytes_is ps
  then_block (refused n) = refl

  total_then : (o : Outcome ℕ) (bytes : List ℕ) → ((o >>= λ t. fine bytes) >>= block_of) ≡ (o >>= λ t. block_of bytes)
  total_then (fine t) bytes = refl
  total_then (refused n) bytes = refl

  -- The block of a plan whose extents lie in the bytes s, which stand in the image where the source is.
  source_bytes : (source : Span) (p : Plan) (s : List ℕ) → StandsFrom img source.from s → length s ≡ size_of source
      → on_fine (bytes_at img) (joined_in source p >>= block_in img) ≡ block_from (lies p.entry.method (length s) p.entry.base) s p.parts
  unfolding joined_in block_from
  source_bytes source p s stands e =
      let place = lies p.entry.method (length s) p.entry.base in
      let w : Walk Span = join place 0 0 p.parts in
      rw (← e)
      (then_block (outcome w.end >>= λ u. fine (each (positions_in source) w.list))
      ∙ ap (λ (o : Outcome (List ℕ)). o >>= block_of) (join_bytes img source s stands place (lies_inside p.entry.method (length s) p.entry.base) 0 0 p.parts)
      ∙ total_then (total_from place 0 p.parts) (gathered place s p.parts))

  -- ---- The answer

  -- an answer over positions is that over bytes
  pub answer_with_is : (out : List ℕ) (b : Outcome (List ℕ)) → answer_by b img out ≡ answer_of out (on_fine (bytes_at img) b)
  unfolding answer_by answer_of answer_with once handed bytes_at
  answer_with_is out (refused n) = refl
  answer_with_is out (fine ps) = rw (length-map ps (byte_at img)) (go (leb (length ps) (length out)))
    where
      said : Bool → List ℕ → Answer
      said t bytes = record { number = if t then 0 else 28; length = length ps; output = bytes ++ drop (length bytes) out }

      go : (t : Bool) → said t (map (byte_at img) (if t then ps else [])) ≡ said t (if t then map (byte_at img) ps else [])
      go true = refl
      go false = refl

  -- ---- From the image on

  on_row : {A B : Type 0} (o : Outcome A) (g : A → Outcome B) (h : B → Outcome (List ℕ)) (k : A → Outcome (List ℕ))
      → ((x : A) → o ≡ fine x → on_fine (bytes_at img) (g x >>= h) ≡ k x) → on_fine (bytes_at img) ((o >>= g) >>= h) ≡ (o >>= k)
  on_row (fine x) g h k e = e x refl
  on_row (refused n) g h k e = refl

  stands_in : (p : Span) → p.to ≤ length img → StandsFrom img p.from (bytes_in img p)
  stands_in p h i k =
      let j : i < size_of p = omega (arith, part_size img p h) in
      rw (bytes_in_is img p h) (part_at img p.from (size_of p) i j)

  pub block_gathered : on_fine (bytes_at img) (block img) ≡ block_bytes img
  unfolding block joined joined_from joined_by block_bytes
  block_gathered =
      on_row (opened img) (joined_from img) (block_in img) _
      (λ m e. on_row (plan m.body.from (bytes_in img m.body)) (joined_by (length img)) (block_in img) _
      (λ p f. on_row (source_of (length img) p.idat p.entry.method) (λ source. joined_in source p) (block_in img) _
      (λ source g. let h = source_lies img m p source e f g in source_bytes source p (bytes_in img source) (stands_in source h) (part_size img source h))))

  -- Document 01's answer is that of the joined bytes.
  pub answer_gathered : (out : List ℕ) → answer img out ≡ answer_of out (block_bytes img)
  answer_gathered out = answer_with_is out (block img) ∙ ap (answer_of out) block_gathered
