-- Demands 1 and 3 for every call of `get_exif_attr`, from its contract alone: what holds of every format (crates/output, specs/Demands), said of JPEG.
-- `r` is what a call answers, `after` the output after it.
use Rattle.std.specs.Prelude.{◌≡◌, ℕ, List, length}
use Rattle.rules.specs.Doc.Consulted.{Agree}
use Rattle.rules.specs.Demands.One.{Longer, Written}
use Rattle.jpeg_rules.specs.Doc.Block.{jpeg_block, jpeg_answer}
use Rattle.jpeg_rules.specs.Doc.Consulted.{jpeg_consulted}
use Rattle.jpeg_rules.specs.Laws.Refusals.{jpeg_early}
use Rattle.jpeg_rules.specs.Demands.Three.{jpeg_quiet}
use Rattle.output.specs.Told.{Extracted, told}
use Rattle.output.specs.Demands as every
use Rattle.output.specs.Demands.{Says}

-- ---- Demand 1

module _ (img out : List ℕ) (r : Extracted) (after : List ℕ) (meets : told r after ≡ jpeg_answer img out) where
  -- Every image, with an output buffer of every length, gets an answer: the block's length, or one refusal by number.
  pub gets_answer : Says (jpeg_block img) r
  gets_answer = every.gets_answer img out (jpeg_block img) (jpeg_early img) after r meets

  -- A refusal changes no byte of the output; success changes the block's bytes only.
  pub refusal_untouched : ((told r after).number ≡ 0 → ⊥) → after ≡ out
  refusal_untouched = every.refusal_untouched img out (jpeg_block img) (jpeg_early img) r after meets

  pub success_only_block : (told r after).number ≡ 0 → Written (jpeg_block img) img out after
  success_only_block = every.success_only_block img out (jpeg_block img) (jpeg_early img) r after meets

  -- The room refusal is given exactly when the block is longer than the buffer.
  pub room_exactly : ((told r after).number ≡ 28 → Longer (jpeg_block img) out) × (Longer (jpeg_block img) out → (told r after).number ≡ 28)
  room_exactly = every.room_exactly img out (jpeg_block img) (jpeg_early img) r after meets

-- ---- Demand 3

-- Two calls: two images of equal length, equal output buffers, agreement on the bytes consulted for the first: the same answer, and the same buffer.
pub pictures_have_no_say : (a b out : List ℕ) → length a ≡ length b → Agree a b (jpeg_consulted a (length out))
    → (r s : Extracted) (after after' : List ℕ) → told r after ≡ jpeg_answer a out → told s after' ≡ jpeg_answer b out
    → (r ≡ s) × (after ≡ after') × (told s after' ≡ jpeg_answer a out)
pictures_have_no_say a b out e g r s after after' p q = every.no_say a out (jpeg_block a) (jpeg_early a) (jpeg_quiet a b e out g) r s after after' p q
