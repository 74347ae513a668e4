-- Which reader answers, by what the two questions say.
use Rattle.std.specs.Prelude.{◌≡◌, ℕ, true, false, List}
use Rattle.rules.specs.Doc.Heif.{is_heif}
use Rattle.rules.specs.Doc.Answers.{answer}
use Rattle.jpeg_rules.specs.Doc.Block.{is_jpeg, jpeg_answer}
use Rattle.jpeg_rules.specs.Doc.Either.{either_block, either_answer}

module _ (img out : List ℕ) where
  pub as_heif : is_heif img ≡ true → either_answer img out ≡ answer img out
  unfolding either_block
  as_heif h = rw h

  pub as_jpeg : is_heif img ≡ false → is_jpeg img ≡ true → either_answer img out ≡ jpeg_answer img out
  unfolding either_block
  as_jpeg h j = rw (h, j)

  pub as_neither : is_heif img ≡ false → is_jpeg img ≡ false → either_answer img out ≡ answer img out
  unfolding either_block
  as_neither h j = rw (h, j)
