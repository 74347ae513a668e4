-- No two outcomes, answer and output together, meet the contract of `get_exif_attr`.
use Rattle.std.specs.Prelude.{◌≡◌, List, ℕ}
use Rattle.rules.specs.Doc.Block.{block}
use Rattle.rules.specs.Doc.Answers.{answer}
use Rattle.rules.specs.Laws.Refusals.{block_early}
use Rattle.output.specs.Told.{Extracted, told}
use Rattle.output.specs.Demands.{answer_one}

pub attr_one : (img out : List ℕ) (x y : Extracted) (after after' : List ℕ) → told x after ≡ answer img out → told y after' ≡ answer img out
    → (x ≡ y) × (after ≡ after')
attr_one img out x y after after' e f = answer_one img out (block img) (block_early img) x y after after' e f
