-- No two outcomes meet a contract of this crate.
use Rattle.std.specs.Prelude.{◌≡◌, Bool, List, ℕ}
use Rattle.std.proofs.Common.{sym, ◌∙◌}
use Rattle.jpeg_rules.specs.Doc.Block.{is_jpeg, jpeg_block, jpeg_answer}
use Rattle.jpeg_rules.specs.Laws.Refusals.{jpeg_early}
use Rattle.output.specs.Told.{Extracted, told}
use Rattle.output.specs.Demands.{answer_one}

-- of `is_jpeg`
pub jpeg_one : (s : List ℕ) {x y : Bool} → x ≡ is_jpeg s → y ≡ is_jpeg s → x ≡ y
jpeg_one s e f = e ∙ sym f

-- of `get_exif_attr`, answer and output together
pub attr_one : (img out : List ℕ) (x y : Extracted) (after after' : List ℕ) → told x after ≡ jpeg_answer img out → told y after' ≡ jpeg_answer img out
    → (x ≡ y) × (after ≡ after')
attr_one img out x y after after' e f = answer_one img out (jpeg_block img) (jpeg_early img) x y after after' e f
