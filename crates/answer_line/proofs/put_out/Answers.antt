use Rattle.std.proofs.Common.{sym, eqb-true, take_all}
use Rattle.std.proofs.lemmas.Bool.{eqb-false}
use Rattle.output.specs.Copied.{copied_none, copied_append}
use Rattle.answer_line.specs.Line.{hexes}
use Rattle.answer_line.specs.Parts.{hexes_more, out_none, out_some}
use Rattle.answer_line.proofs.put_out.Goals as goal

pub returns-then-is_empty : goal.returns-then-is_empty
returns-then-is_empty c = rw (out_none c.args.out.now (eqb-true _ _ (sym c.if-is_empty.ensures))) c.put.ensures

pub loop-b-init : goal.loop-b-init
unfolding hexes
loop-b-init c = copied_none _ _

pub loop-b-preserved : goal.loop-b-preserved
loop-b-preserved c = rw (hexes_more c.args.out.now _ c.loop-b-test.true) (copied_append c.loop-b.invariant c.put_pair-end.ensures)

pub returns : goal.returns
returns c =
    let l = c.loop-b in
    let out = c.args.out.now in
    rw (out_some out (eqb-false _ _ (sym c.if-is_empty.ensures))) (rw (take_all l.b-index out c.loop-b-test.false) at l.invariant)
