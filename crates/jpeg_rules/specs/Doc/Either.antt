-- A reader above both formats: it asks two questions, and then one of the readers.
use Rattle.std.specs.Prelude.{ℕ, List, ◌++◌, length, if◌then◌else◌}
use Rattle.rules.specs.Doc.Outcomes.{Outcome}
use Rattle.rules.specs.Doc.Levels.{boxes}
use Rattle.rules.specs.Doc.Block.{block as heifBlock}
use Rattle.rules.specs.Doc.Heif.{heif_level, is_heif}
use Rattle.rules.specs.Doc.Answers.{Answer, answer_by}
use Rattle.rules.specs.Doc.Consulted.{boxes_bytes, consulted as heifConsulted}
use Rattle.jpeg_rules.specs.Doc.Block.{is_jpeg, jpeg_block}
use Rattle.jpeg_rules.specs.Doc.Consulted.{start_bytes, jpeg_consulted}

-- HEIF yes (`is_heif`) goes to the HEIF reader, else a file that starts FF D8 to the JPEG reader, else it is what the HEIF reader says.
unfoldable pub either_block : List ℕ → Outcome (List ℕ)
either_block img = if is_heif img then heifBlock img else if is_jpeg img then jpeg_block img else heifBlock img

abbrev pub either_answer : List ℕ → List ℕ → Answer
either_answer img out = answer_by (either_block img) img out

-- What the two questions consult, and then the reader that is asked.
unfoldable pub either_consulted : List ℕ → ℕ → List ℕ
either_consulted img room =
    boxes_bytes heif_level (length img) (boxes heif_level img 0)
    ++ (start_bytes img
    ++ (if is_heif img then heifConsulted img room else if is_jpeg img then jpeg_consulted img room else heifConsulted img room))
