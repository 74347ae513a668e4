-- Four texts, one behind the other; the output that is told is the one that is lent.
use Rattle.output.specs.Copied.{copied_append}
use Rattle.output.specs.Unique.{output_told}
use Rattle.answer_line.specs.Line.{answer_text}
use Rattle.answer_line.proofs.of_answer.Goals as goal

pub returns : goal.returns
unfolding answer_text
returns c =
    let start = c.args in
    rw (output_told start.answer start.out.now)
    (copied_append
    (copied_append (copied_append (c.put_answer-at.ensures start.out.now) c.put_kind-at.ensures) c.put_out-at.ensures)
    c.put.ensures)
