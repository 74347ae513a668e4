-- Each part that was read is a part of the line of an entry, if there is one; so what is missing here is missing in every such line.
use Rattle.rules.specs.Laws.Numbers.{last_part}
use Rattle.sheet_line.specs.Shape.{no_answer, no_length, no_newline, whole_line}
use Rattle.sheet_line.proofs.read_line.Goals as goal

pub returns-in_err-answer : goal.returns-in_err-answer
returns-in_err-answer c = rw c.from_residual.ensures (no_answer _ c.in_err-answer.ensures)

pub returns-in_err-length : goal.returns-in_err-length
returns-in_err-length c =
    rw c.from_residual-in_err-length.ensures
    (no_length _ c.in_ok-answer.ensures (rw (c.most_length.ensures.0, last_part _ _) at c.in_err-length.ensures))

pub returns-then-not-starts_with : goal.returns-then-not-starts_with
returns-then-not-starts_with c =
    let sized = rw (c.most_length.ensures.0, last_part _ _) at c.in_ok-length.ensures in
    no_newline _ c.in_ok-answer.ensures sized (rw (last_part _ _) at c.if-not-starts_with.ensures.value)

pub returns : goal.returns
returns c =
    let sized = rw (c.most_length.ensures.0, last_part _ _) at c.in_ok-length.ensures in
    whole_line _ c.in_ok-answer.ensures sized (rw (last_part _ _) at c.if-not-starts_with.ensures.value)
