use mathlib.Core.Path.{refl}
use native.Mathlib.Omega.{arith}
use Rattle.rules.specs.Laws.Totals.{added_below, total_done, total_stop, total_next}
use Rattle.std.proofs.lemmas.Result.{err_from_is_err_and}
use Rattle.join.specs.Answers.{extents_end}
use Rattle.join.proofs.total.total_size.Goals as goal

pub loop-k-init : goal.loop-k-init
loop-k-init c = (refl, omega arith)

pub with_part-requires : goal.with_part-requires
with_part-requires c = c.loop-k.invariant.1

pub returns-in_err-total : goal.returns-in_err-total
returns-in_err-total c =
    let p = err_from_is_err_and c.from_residual.result c.from_residual.ensures.1 in
    let w = rw c.in_err-total.was at c.with_part.ensures in
    rw (p.1, p.2) (total_stop _ _ c.loop-k.invariant.0 c.read_extent-x.ensures c.extent_place.ensures w)

pub loop-k-preserved : goal.loop-k-preserved
loop-k-preserved c =
    let w = rw c.in_ok-total.was at c.with_part.ensures in
    (total_next _ _ c.loop-k.invariant.0 c.read_extent-x.ensures c.extent_place.ensures w, added_below _ _ w)

pub returns : goal.returns
returns c = total_done _ _ c.loop-k.invariant.0 (extents_end c.args.location.now _ c.loop-k-test.false)
