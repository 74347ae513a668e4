-- Demands 1 and 3 for every call of `get_exif_attr`, from its contract alone: what holds of every format (crates/output, specs/Demands), said of both.
-- `r` is what a call answers, `after` the output after it.
use Rattle.std.specs.Prelude.{◌≡◌, ℕ, ◌<◌, true, List, length}
use Rattle.rules.specs.Doc.Consulted.{Agree}
use Rattle.rules.specs.Demands.One.{Longer, Written}
use Rattle.jpeg_rules.specs.Doc.Block.{is_jpeg}
use Rattle.jpeg_rules.specs.Doc.Consulted.{jpeg_consulted}
use Rattle.jpeg_rules.specs.Doc.Either.{either_block, either_answer, either_consulted}
use Rattle.jpeg_rules.specs.Laws.Refusals.{either_early}
use Rattle.jpeg_rules.specs.Demands.Three.{either_quiet, either_quiet_jpeg}
use Rattle.output.specs.Told.{Extracted, told}
use Rattle.output.specs.Demands as every
use Rattle.output.specs.Demands.{Says}

-- ---- Demand 1

module _ (img out : List ℕ) (r : Extracted) (after : List ℕ) (meets : told r after ≡ either_answer img out) where
  -- Every image, with an output buffer of every length, gets an answer: the block's length, or one refusal by number.
  pub gets_answer : Says (either_block img) r
  gets_answer = every.gets_answer img out (either_block img) (either_early img) after r meets

  pub output_is : after ≡ (either_answer img out).output
  output_is = every.output_is img out (either_block img) (either_early img) r after meets

  -- A refusal changes no byte of the output; success changes the block's bytes only.
  pub refusal_untouched : ((told r after).number ≡ 0 → ⊥) → after ≡ out
  refusal_untouched = every.refusal_untouched img out (either_block img) (either_early img) r after meets

  pub success_only_block : (told r after).number ≡ 0 → Written (either_block img) img out after
  success_only_block = every.success_only_block img out (either_block img) (either_early img) r after meets

  -- The room refusal is given exactly when the block is longer than the buffer.
  pub room_exactly : ((told r after).number ≡ 28 → Longer (either_block img) out) × (Longer (either_block img) out → (told r after).number ≡ 28)
  room_exactly = every.room_exactly img out (either_block img) (either_early img) r after meets

-- ---- Demand 3

-- Two calls: two images of equal length, equal output buffers, agreement on the bytes consulted for the first: the same answer, and the same buffer.
pub pictures_have_no_say : (a b out : List ℕ) → length a ≡ length b → Agree a b (either_consulted a (length out))
    → (r s : Extracted) (after after' : List ℕ) → told r after ≡ either_answer a out → told s after' ≡ either_answer b out
    → (r ≡ s) × (after ≡ after') × (told s after' ≡ either_answer a out)
pictures_have_no_say a b out e g r s after after' p q =
    every.no_say a out (either_block a) (either_early a) (either_quiet a b e out g) r s after after' p q

-- The same of a JPEG file below 4,292,345,856 bytes, by JPEG's own bytes alone: what the two questions consult beside them has no say there.
pub jpeg_pictures_have_no_say : (a b out : List ℕ) → length a ≡ length b → is_jpeg a ≡ true → length a < 0xffd80000 → Agree a b (jpeg_consulted a (length out))
    → (r s : Extracted) (after after' : List ℕ) → told r after ≡ either_answer a out → told s after' ≡ either_answer b out
    → (r ≡ s) × (after ≡ after') × (told s after' ≡ either_answer a out)
jpeg_pictures_have_no_say a b out e j h g r s after after' p q =
    every.no_say a out (either_block a) (either_early a) (either_quiet_jpeg a b e out j h g) r s after after' p q
