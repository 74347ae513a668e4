-- Which reader answers, by what the two questions said: each one's answer is that of the reader above both, where its turn comes.
use Rattle.std.specs.Prelude.{◌≡◌, Bool, true, false, List, ℕ}
use Rattle.std.proofs.Common.{sym, ◌∙◌}
use Rattle.rules.specs.Doc.Heif.{is_heif}
use Rattle.rules.specs.Doc.Answers.{Answer, answer}
use Rattle.jpeg_rules.specs.Doc.Block.{is_jpeg, jpeg_answer}
use Rattle.jpeg_rules.specs.Doc.Either.{either_answer}
use Rattle.jpeg_rules.specs.Laws.Asked as asked

module _ (img out : List ℕ) {a : Answer} {heif : Bool} (e : heif ≡ is_heif img) where
  pub as_heif : heif ≡ true → a ≡ answer img out → a ≡ either_answer img out
  as_heif h r = r ∙ sym (asked.as_heif img out (sym e ∙ h))

  pub as_jpeg : {jpeg : Bool} → heif ≡ false → jpeg ≡ is_jpeg img → jpeg ≡ true → a ≡ jpeg_answer img out → a ≡ either_answer img out
  as_jpeg h f j r = r ∙ sym (asked.as_jpeg img out (sym e ∙ h) (sym f ∙ j))

  pub as_neither : {jpeg : Bool} → heif ≡ false → jpeg ≡ is_jpeg img → jpeg ≡ false → a ≡ answer img out → a ≡ either_answer img out
  as_neither h f j r = r ∙ sym (asked.as_neither img out (sym e ∙ h) (sym f ∙ j))
