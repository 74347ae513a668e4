-- No two outcomes, answer and output together, meet the contract of `get_exif_attr`.
use Rattle.std.specs.Prelude.{◌≡◌, List, ℕ}
use Rattle.jpeg_rules.specs.Doc.Either.{either_block, either_answer}
use Rattle.jpeg_rules.specs.Laws.Refusals.{either_early}
use Rattle.output.specs.Told.{Extracted, told}
use Rattle.output.specs.Demands.{answer_one}

pub attr_one : (img out : List ℕ) (x y : Extracted) (after after' : List ℕ) → told x after ≡ either_answer img out → told y after' ≡ either_answer img out
    → (x ≡ y) × (after ≡ after')
attr_one img out x y after after' e f = answer_one img out (either_block img) (either_early img) x y after after' e f
