-- A whole box lies in the bytes, behind its header.
use native.Mathlib.Omega.{arith}
use Rattle.rules.specs.Laws.Headers.{child_inside}
use Rattle.boxes.specs.Loops.{box_whole}
use Rattle.listing.proofs.found.Found.at.Goals as goal

pub invariant_of-result : goal.invariant_of-result
invariant_of-result c =
    let b = box_whole _ _ (c.read.ensures 3) (c.child_box.ensures _) c.in_ok-child.was in
    let i = child_inside c.args.s.now c.args.at b.is in
    record { order = (omega arith, i.order); inside = i.inner }
