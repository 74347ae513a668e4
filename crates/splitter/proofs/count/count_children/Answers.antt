-- The box of a turn is refused or whole by what `read` and `child_box` say together; the law of the count is that a whole one makes one more than there
-- are behind it, and a refused one none.
use Rattle.std.proofs.Common.{arith}
use Rattle.boxes.specs.Loops.{WholeBox, box_refused, box_whole}
use Rattle.splitter.specs.Children.{whole_children}
use Rattle.splitter.specs.Counting.{whole_next, whole_refused}
use Rattle.splitter.proofs.count.count_children.Goals as goal
use Rattle.splitter.proofs.count.count_children.Goals.{In-Ok}

-- the box of this turn, once it is known to be whole
box : (c : In-Ok) → WholeBox c.args.s.now c.loop-child.at c.in-Ok.child.kind c.in-Ok.child.from c.in-Ok.child.to
box c = box_whole _ _ (c.read.ensures 3) (c.child_box.ensures _) c.in-Ok.is

pub loop-child-init : goal.loop-child-init
unfolding whole_children
loop-child-init c = (omega arith, omega arith)

pub overflow_add-count : goal.overflow_add-count
overflow_add-count c = let b = box (goal.at.overflow_add-count c).In-Ok in omega arith

pub loop-child-smaller : goal.loop-child-smaller
loop-child-smaller c = (box (goal.at.loop-child-smaller c).In-Ok).less

pub loop-child-preserved : goal.loop-child-preserved
loop-child-preserved c =
    let b = box (goal.at.loop-child-preserved c).In-Ok in
    (omega arith, omega (arith, whole_next _ _ b.is))

pub returns : goal.returns
returns c =
    let b = box_refused _ _ (c.read.ensures 3) (c.child_box.ensures _) c.in_default.is in
    omega (arith, whole_refused _ _ b)
