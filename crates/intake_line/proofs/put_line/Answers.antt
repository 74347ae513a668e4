-- The numbers, and a newline behind them.
use Rattle.output.specs.Copied.{copied_append}
use Rattle.intake_line.specs.Told.{told_line}
use Rattle.intake_line.proofs.put_line.Goals as goal

pub returns : goal.returns
returns c =
    λ out.
    rw (told_line _) (copied_append (c.put_answer-at.ensures out) c.put.ensures)
