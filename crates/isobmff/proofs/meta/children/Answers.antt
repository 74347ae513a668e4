-- A child that was read is whole: so its body can be taken, what it leaves goes by its type, and the loop goes on behind it.
use Rattle.std.proofs.Common.{rules}
use Rattle.boxes.specs.Loops.{box_refused, box_whole}
use Rattle.isobmff.specs.Children.{children_start, children_over_is}
use Rattle.isobmff.specs.Children.{child_cut, child_iinf, child_iloc, child_idat, child_other}
use Rattle.isobmff.proofs.meta.children.Goals as goal

pub loop-at-init : goal.loop-at-init
loop-at-init c = children_start _

pub returns-in_err-kind : goal.returns-in_err-kind
returns-in_err-kind c =
    let b = box_refused _ _ (c.read.ensures 3) (c.child_box.ensures _) c.in_err-kind.was in
    search (rules, child_cut)

pub slice_bounds-parse_iinf-count : goal.slice_bounds-parse_iinf-count
slice_bounds-parse_iinf-count c = (box_whole _ _ (c.read.ensures 3) (c.child_box.ensures _) c.in_ok-kind.was).order

pub slice_bounds-parse_iinf-start : goal.slice_bounds-parse_iinf-start
slice_bounds-parse_iinf-start c = (box_whole _ _ (c.read.ensures 3) (c.child_box.ensures _) c.in_ok-kind.was).order

pub slice_bounds-parse_iinf-end : goal.slice_bounds-parse_iinf-end
slice_bounds-parse_iinf-end c = (box_whole _ _ (c.read.ensures 3) (c.child_box.ensures _) c.in_ok-kind.was).inner

pub returns-in_err-item_id-in-1768517222 : goal.returns-in_err-item_id-in-1768517222
returns-in_err-item_id-in-1768517222 c =
    let b = box_whole _ _ (c.read.ensures 3) (c.child_box.ensures _) c.in_ok-kind.was in
    let o = rw c.in_err-item_id-in-1768517222.was at (child_iinf _ _ _ c.loop-at.invariant c.loop-at-test.true b c.in-1768517222.is c.parse_iinf.ensures) in
    search rules

pub loop-at-smaller-in_ok-item_id-in-1768517222 : goal.loop-at-smaller-in_ok-item_id-in-1768517222
loop-at-smaller-in_ok-item_id-in-1768517222 c = (box_whole _ _ (c.read.ensures 3) (c.child_box.ensures _) c.in_ok-kind.was).less

pub loop-at-preserved-in_ok-item_id-in-1768517222 : goal.loop-at-preserved-in_ok-item_id-in-1768517222
loop-at-preserved-in_ok-item_id-in-1768517222 c =
    let b = box_whole _ _ (c.read.ensures 3) (c.child_box.ensures _) c.in_ok-kind.was in
    rw c.in_ok-item_id-in-1768517222.was at (child_iinf _ _ _ c.loop-at.invariant c.loop-at-test.true b c.in-1768517222.is c.parse_iinf.ensures)

pub loop-at-smaller-in-1768714083 : goal.loop-at-smaller-in-1768714083
loop-at-smaller-in-1768714083 c = (box_whole _ _ (c.read.ensures 3) (c.child_box.ensures _) c.in_ok-kind.was).less

pub loop-at-preserved-in-1768714083 : goal.loop-at-preserved-in-1768714083
loop-at-preserved-in-1768714083 c =
    child_iloc _ _ _ c.loop-at.invariant c.loop-at-test.true (box_whole _ _ (c.read.ensures 3) (c.child_box.ensures _) c.in_ok-kind.was) c.in-1768714083.is

pub loop-at-smaller-in-1768186228 : goal.loop-at-smaller-in-1768186228
loop-at-smaller-in-1768186228 c = (box_whole _ _ (c.read.ensures 3) (c.child_box.ensures _) c.in_ok-kind.was).less

pub loop-at-preserved-in-1768186228 : goal.loop-at-preserved-in-1768186228
loop-at-preserved-in-1768186228 c =
    child_idat _ _ _ c.loop-at.invariant c.loop-at-test.true (box_whole _ _ (c.read.ensures 3) (c.child_box.ensures _) c.in_ok-kind.was) c.in-1768186228.is

pub loop-at-smaller : goal.loop-at-smaller
loop-at-smaller c = (box_whole _ _ (c.read.ensures 3) (c.child_box.ensures _) c.in_ok-kind.was).less

pub loop-at-preserved : goal.loop-at-preserved
loop-at-preserved c = search (child_other, (box_whole _ _ (c.read.ensures 3) (c.child_box.ensures _) c.in_ok-kind.was))

pub returns : goal.returns
returns c = search children_over_is
