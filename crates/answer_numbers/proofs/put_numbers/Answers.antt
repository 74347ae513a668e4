-- Two texts, one behind the other, and the place behind them, or the end of the buffer.
use Rattle.answer_numbers.specs.Numbers.{written_copied}
use Rattle.answer_numbers.proofs.put_numbers.Goals as goal

pub returns : goal.returns
returns c = written_copied _ _ c.put_named-at.ensures c.put_named.ensures c.min.ensures
