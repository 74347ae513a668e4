-- The word, and then 1 or 0 by the same test.
use Rattle.output.specs.Copied.{copied_append}
use Rattle.answer_line.specs.Line.{kind_text}
use Rattle.answer_line.proofs.put_kind.Goals as goal
use Rattle.answer_line.proofs.put_kind.Goals.{then-holds, else-holds}

pub returns : goal.returns
unfolding kind_text
returns c =
    elim c.if-holds.branch [
      | then-holds w ↦ rw w.if-holds.true (copied_append c.put-at.ensures (rw w.said-is at c.put.ensures))
      | else-holds w ↦ rw w.if-holds.false (copied_append c.put-at.ensures (rw w.said-is at c.put.ensures))
    ]
