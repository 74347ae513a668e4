use Rattle.output.specs.Answers.{answer_0}
use Rattle.output.proofs.hand_out.Goals as goal

pub returns : goal.returns
returns c = answer_0 _ _ c.if-out-block.false c.put.ensures.buffer
