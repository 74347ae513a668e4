-- Demand 1: every image gets the block's length or a number; a refusal changes no byte of the output, success changes the block's bytes only; the
-- room refusal is given exactly when the block is longer than the buffer. It is shown of any block, or refusal of one, that comes before the room; so
-- it holds of every format. And how large the length and the number can be for a HEIF image.
use Rattle.std.proofs.Math.Path.{◌≡◌, refl}
use Rattle.std.specs.Prelude.{ℕ, ◌≤◌, ◌<◌, Bool, ◌⊎◌, List, [], ◌++◌, map, if◌then◌else◌}
use native.Mathlib.Omega.{arith}
use Rattle.std.proofs.Math.Bool.{true, false}
use Rattle.std.proofs.Math.Logic.{inl, inr}
use Rattle.std.proofs.Math.ListN.{length, drop}
use Rattle.std.proofs.lemmas.List.{length-map}
use Rattle.std.proofs.Math.Dec.{leb}
use borrow.Author.Tests.{leb-true, leb-false, lt-leb}
use Rattle.rules.specs.Doc.Outcomes.{Outcome, fine, refused, once}
use Rattle.rules.specs.Doc.Bytes.{byte_at}
use Rattle.rules.specs.Doc.Block.{bytes_at, block}
use Rattle.rules.specs.Doc.Answers.{handed, answer_with, answer_by, answer}
use Rattle.rules.specs.Laws.Numbered.{Within, with_number, within_larger}
use Rattle.rules.specs.Laws.Room.{Early, room_length}
use Rattle.rules.specs.Laws.Refusals.{in_table_most, block_numbered, block_early}
use Rattle.rules.specs.Laws.Limit.{block_limit}

-- there is a block, and it is longer than the buffer
pub record Longer (b : Outcome (List ℕ)) (out : List ℕ) : Type 0 where
  pub positions : List ℕ
  pub is_block : b ≡ fine positions
  pub longer : length out < length positions

-- there is a block, it has room, and the output is the block with what stood behind it
pub record Written (b : Outcome (List ℕ)) (img out after : List ℕ) : Type 0 where
  pub positions : List ℕ
  pub is_block : b ≡ fine positions
  pub room : length positions ≤ length out
  pub front : after ≡ bytes_at img positions ++ drop (length positions) out

-- ---- Any block, or refusal of one

module _ (img out : List ℕ) where
  -- the block's length is said, whether or not there is room; a refusal before the room carries none
  pub length_said : {b : Outcome (List ℕ)} {ps : List ℕ} → b ≡ fine ps → (answer_by b img out).length ≡ length ps
  unfolding answer_by answer_with
  length_said e = rw e

  pub refusal_said : {b : Outcome (List ℕ)} {n : ℕ} → b ≡ refused n → (answer_by b img out).number ≡ n
  unfolding answer_by answer_with
  refusal_said e = rw e

  pub block_said : {b : Outcome (List ℕ)} {ps : List ℕ} → b ≡ fine ps → ((answer_by b img out).number ≡ 0) ⊎ ((answer_by b img out).number ≡ 28)
  unfolding answer_by answer_with
  block_said {b} {ps} e = rw e (go (leb (length ps) (length out)))
    where
      go : (t : Bool) → (◌≡◌ {A = ℕ} (if t then 0 else 28) 0) ⊎ (◌≡◌ {A = ℕ} (if t then 0 else 28) 28)
      go true = inl refl
      go false = inr refl

  pub room_only_then : (b : Outcome (List ℕ)) → Early b → (answer_by b img out).number ≡ 28 → Longer b out
  unfolding answer_by answer_with
  room_only_then (refused n) (with_number p) h = absurd (p.1 h)
  room_only_then (fine ps) p h = record { positions = ps; is_block = refl; longer = go (leb (length ps) (length out)) refl h }
    where
      go : (t : Bool) → leb (length ps) (length out) ≡ t → ◌≡◌ {A = ℕ} (if t then 0 else 28) 28 → length out < length ps
      go true f h = absurd (omega arith)
      go false f h = leb-false (length ps) (length out) f

  pub room_then : {b : Outcome (List ℕ)} → Longer b out → (answer_by b img out).number ≡ 28
  unfolding answer_by answer_with
  room_then l = rw (l.is_block, lt-leb (length l.positions) (length out) l.longer)

  -- 28 carries the length that is needed
  pub needs_length : {b : Outcome (List ℕ)} → Early b → (answer_by b img out).number ≡ 28 → 0 < (answer_by b img out).length
  unfolding answer_by
  needs_length {b} p h = room_length out _ b p h

  -- what is put in front of the output: the block, if there is room
  unfoldable front : List ℕ → Bool → List ℕ
  front ps t = map (byte_at img) (if t then ps else [])

  pub refusal_keeps : (b : Outcome (List ℕ)) → ((answer_by b img out).number ≡ 0 → ⊥) → (answer_by b img out).output ≡ out
  unfolding answer_by answer_with once handed bytes_at front
  refusal_keeps (refused n) h = refl
  refusal_keeps (fine ps) h = go (leb (length ps) (length out)) h
    where
      go : (t : Bool) → (◌≡◌ {A = ℕ} (if t then 0 else 28) 0 → ⊥) → front ps t ++ drop (length (front ps t)) out ≡ out
      go true h = absurd (h refl)
      go false h = refl

  pub success_writes : (b : Outcome (List ℕ)) → Early b → (answer_by b img out).number ≡ 0 → Written b img out (answer_by b img out).output
  unfolding answer_by answer_with once handed bytes_at front
  success_writes (refused n) (with_number p) h = absurd (p.0 h)
  success_writes (fine ps) p h = go (leb (length ps) (length out)) refl h
    where
      go : (t : Bool) → leb (length ps) (length out) ≡ t → ◌≡◌ {A = ℕ} (if t then 0 else 28) 0
          → Written (fine ps) img out (front ps t ++ drop (length (front ps t)) out)
      go true f h = record { positions = ps; is_block = refl; room = leb-true (length ps) (length out) f; front = rw (length-map ps (byte_at img)) }
      go false f h = absurd (omega arith)

  -- How large the length can be, if that is known of the block.
  pub length_within : (most : ℕ) (b : Outcome (List ℕ)) → ((ps : List ℕ) → b ≡ fine ps → length ps ≤ most) → (answer_by b img out).length ≤ most
  unfolding answer_by answer_with
  length_within most (refused n) h = omega arith
  length_within most (fine ps) h = h ps refl

  -- The number is 0 or 28, or one that is given before the room.
  pub number_in : (Table : ℕ → Type 0) → Table 0 → Table 28 → (b : Outcome (List ℕ)) → Within Table b → Table (answer_by b img out).number
  unfolding answer_by answer_with
  number_in Table done room (refused n) (with_number p) = p
  number_in Table done room (fine ps) p = go (leb (length ps) (length out))
    where
      go : (t : Bool) → Table (if t then 0 else 28)
      go true = done
      go false = room

  -- How large the number can be, if that is known of what comes before the room.
  pub number_within : (most : ℕ) → 28 ≤ most → (b : Outcome (List ℕ)) → Within (λ n. n ≤ most) b → (answer_by b img out).number ≤ most
  number_within most h b p = number_in (λ n. n ≤ most) (omega arith) h b p

  -- A buffer so long has room for every block.
  pub enough_room : (most : ℕ) (b : Outcome (List ℕ)) → Early b → ((ps : List ℕ) → b ≡ fine ps → length ps ≤ most)
      → most ≤ length out → (answer_by b img out).number ≡ 28 → ⊥
  enough_room most b p h k e =
      let l = room_only_then b p e in
      omega (arith, l.longer, h l.positions l.is_block)

-- ---- A HEIF image

module _ (img out : List ℕ) where
  -- No length is above 65,531, so a buffer of that length has room for every block.
  pub length_limit : (answer img out).length ≤ 65531
  length_limit = length_within img out 65531 (block img) (λ ps e. block_limit img e)

  pub always_room : 65531 ≤ length out → (answer img out).number ≡ 28 → ⊥
  always_room h e = enough_room img out 65531 (block img) (block_early img) (λ ps e. block_limit img e) h e

  -- A number above 26 is 28: 27 is retired, and none is higher.
  pub number_limit : 26 < (answer img out).number → (answer img out).number ≡ 28
  number_limit =
      number_in img out (λ n. 26 < n → n ≡ 28) (λ h. absurd (omega arith)) (λ h. refl) (block img)
      (within_larger (λ n p h. absurd (omega (arith, in_table_most n p))) (block img) (block_numbered img))
