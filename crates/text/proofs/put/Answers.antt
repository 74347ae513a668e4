use Rattle.text.specs.Wrote.{wrote_more}
use Rattle.text.proofs.put.Goals as goal

pub loop-b-preserved : goal.loop-b-preserved
loop-b-preserved c = wrote_more _ c.loop-b-test.true c.loop-b.invariant c.put_byte-end.ensures
