use mathlib.Core.Path.{refl, ◌∙◌}
use Rattle.rules.specs.Laws.Over.{gather_full, gather_done, gather_next}
use Rattle.output.specs.Copied.{copied_then}
use Rattle.join.specs.Answers.{extents_end}
use Rattle.join.proofs.copy.gather.Goals as goal

pub loop-k-init : goal.loop-k-init
loop-k-init c = (refl, refl)

pub returns-then-out-at : goal.returns-then-out-at
returns-then-out-at c =
    let l = c.loop-k in
    gather_full _ _ _ _ l.left _ l.invariant.1 c.if-out-at.true

pub loop-k-preserved : goal.loop-k-preserved
loop-k-preserved c =
    let w = c.put-at in
    let l = c.loop-k in (
      w.auto.out ∙ l.invariant.0,
      gather_next _ _ _ _ _ _ l.invariant.1 c.read_extent-x.ensures c.extent_part-part.ensures c.saturating_sub-left.ensures _ _ (copied_then w.ensures),
    )

pub returns : goal.returns
returns c =
    gather_done _ _ _ _ c.loop-k.left _ c.loop-k.invariant.1 (extents_end c.args.location.now _ c.loop-k-test.false)
