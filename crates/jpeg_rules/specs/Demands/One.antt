-- Demand 1: a refusal changes no byte of the output, success changes the block's bytes only, and the room refusal is given exactly when the block is
-- longer than the buffer: the theorems for every format, said of these. How large length and number can be. And that a block stands behind
-- `Exif` and two zero bytes in the E1 segment that ended the search.
use Rattle.std.specs.Prelude.{◌≡◌, refl, ℕ, ◌≤◌, ◌<◌, Bool, true, false, ◌⊎◌, List, length, if◌then◌else◌}
use Rattle.std.proofs.Common.{sym, le_trans, arith, inl, inr, lit≤}
use Rattle.rules.specs.Doc.Outcomes.{fine, require}
use Rattle.rules.specs.Doc.Bytes.{positions, size_of}
use Rattle.rules.specs.Doc.Walks.{stopped_at}
use Rattle.rules.specs.Doc.Block.{block}
use Rattle.rules.specs.Doc.Heif.{is_heif}
use Rattle.rules.specs.Laws.Rows.{bind_fine}
use Rattle.rules.specs.Laws.Endian.{Bytes}
use Rattle.rules.specs.Laws.Numbered.{within_larger}
use Rattle.rules.specs.Laws.Limit.{block_limit}
use Rattle.rules.specs.Demands.One as every
use Rattle.rules.specs.Demands.One.{Longer, Written}
use Rattle.jpeg_rules.specs.Doc.Segments.{Segment, is_exif, segments}
use Rattle.jpeg_rules.specs.Doc.Block.{is_jpeg, behind_name, found_in, jpeg_block, jpeg_answer}
use Rattle.jpeg_rules.specs.Doc.Either.{either_block, either_answer}
use Rattle.jpeg_rules.specs.Laws.Refusals.{InSearchTable, jpeg_most, jpeg_early, started_numbered, either_early, either_most, either_apart}
use Rattle.jpeg_rules.specs.Laws.Limit.{jpeg_limit}
use Rattle.jpeg_rules.specs.Laws.Stopped.{found_behind}

-- ---- JPEG

-- 0 and 28, and the numbers of the search: 1, 2, 32 and 33
abbrev pub InStartedTable : ℕ → Type 0
InStartedTable n = (n ≡ 0) ⊎ ((n ≡ 28) ⊎ InSearchTable n)

module _ (img out : List ℕ) where
  pub refusal_keeps : ((jpeg_answer img out).number ≡ 0 → ⊥) → (jpeg_answer img out).output ≡ out
  refusal_keeps h = every.refusal_keeps img out (jpeg_block img) h

  pub success_writes : (jpeg_answer img out).number ≡ 0 → Written (jpeg_block img) img out (jpeg_answer img out).output
  success_writes h = every.success_writes img out (jpeg_block img) (jpeg_early img) h

  pub room_exactly : ((jpeg_answer img out).number ≡ 28 → Longer (jpeg_block img) out) × (Longer (jpeg_block img) out → (jpeg_answer img out).number ≡ 28)
  room_exactly = (every.room_only_then img out (jpeg_block img) (jpeg_early img), every.room_then img out)

  -- No length is above 65,527, so a buffer of that length has room for every block.
  pub jpeg_length : Bytes img → (jpeg_answer img out).length ≤ 65527
  jpeg_length b = every.length_within img out 65527 (jpeg_block img) (λ ps e. jpeg_limit img b e)

  pub jpeg_room : Bytes img → 65527 ≤ length out → (jpeg_answer img out).number ≡ 28 → ⊥
  jpeg_room b h e = every.enough_room img out 65527 (jpeg_block img) (jpeg_early img) (λ ps e. jpeg_limit img b e) h e

  -- No number is above 33.
  pub jpeg_number : (jpeg_answer img out).number ≤ 33
  jpeg_number = every.number_within img out 33 (omega arith) (jpeg_block img) (jpeg_most img)

  -- Of what starts FF D8 it is 0, 28, or a number of the search.
  pub started_number : is_jpeg img ≡ true → InStartedTable (jpeg_answer img out).number
  started_number e =
      every.number_in img out InStartedTable (inl refl) (inr (inl refl)) (jpeg_block img)
      (within_larger (λ n p. inr (inr p)) (jpeg_block img) (started_numbered img e))

-- the E1 segment that ended the search, which starts `Exif` and two zero bytes, and the block behind them
pub record Holds (img ps : List ℕ) : Type 0 where
  pub segment : Segment
  pub ended_search : (segments img).end ≡ stopped_at segment
  pub exif : is_exif img segment ≡ true
  pub behind : ps ≡ positions (behind_name segment).from (size_of (behind_name segment))

pub block_held : (img : List ℕ) {ps : List ℕ} → jpeg_block img ≡ fine ps → Holds img ps
unfolding jpeg_block
block_held img {ps} e =
    let (u, f, g) = bind_fine (require (is_jpeg img) 31) _ (sym e) in
    let (p, h, i) = bind_fine (found_in img) _ g in
    let (x, end, exif, z) = found_behind img h in
    let y : ps ≡ positions p.from (size_of p) = cc in
    record { segment = x; ended_search = end; exif = exif; behind = rw (← z) y }

-- ---- The reader above both formats

pub either_limit : (img : List ℕ) → Bytes img → {ps : List ℕ} → either_block img ≡ fine ps → length ps ≤ 65531
unfolding either_block
either_limit img b {ps} e = go (is_heif img) (is_jpeg img) e
  where
    go : (t j : Bool) → (if t then block img else if j then jpeg_block img else block img) ≡ fine ps → length ps ≤ 65531
    go true j e = block_limit img e
    go false true e = le_trans (jpeg_limit img b e) (lit≤ tt)
    go false false e = block_limit img e

module _ (img out : List ℕ) where
  pub either_refusal_keeps : ((either_answer img out).number ≡ 0 → ⊥) → (either_answer img out).output ≡ out
  either_refusal_keeps h = every.refusal_keeps img out (either_block img) h

  pub either_success_writes : (either_answer img out).number ≡ 0 → Written (either_block img) img out (either_answer img out).output
  either_success_writes h = every.success_writes img out (either_block img) (either_early img) h

  pub either_room_exactly : ((either_answer img out).number ≡ 28 → Longer (either_block img) out)
      × (Longer (either_block img) out → (either_answer img out).number ≡ 28)
  either_room_exactly = (every.room_only_then img out (either_block img) (either_early img), every.room_then img out)

  pub either_length : Bytes img → (either_answer img out).length ≤ 65531
  either_length b = every.length_within img out 65531 (either_block img) (λ ps e. either_limit img b e)

  pub either_room : Bytes img → 65531 ≤ length out → (either_answer img out).number ≡ 28 → ⊥
  either_room b h e = every.enough_room img out 65531 (either_block img) (either_early img) (λ ps e. either_limit img b e) h e

  -- No number is above 33.
  pub either_number : (either_answer img out).number ≤ 33
  either_number = every.number_within img out 33 (omega arith) (either_block img) (either_most img)

  -- From 27 to 31 only 28 is given: 31 is the JPEG reader's alone, as what doesn't start FF D8 is asked of the HEIF reader.
  pub either_between : 26 < (either_answer img out).number → (either_answer img out).number < 32 → (either_answer img out).number ≡ 28
  either_between =
      every.number_in img out (λ n. 26 < n → n < 32 → n ≡ 28) (λ h k. absurd (omega arith)) (λ h k. refl) (either_block img)
      (within_larger (λ n p h k. absurd (p h k)) (either_block img) (either_apart img))
