-- The body of the first box and what is left are so many bytes at the end, and that box is one more than those in what is left.
use Rattle.std.proofs.Common.{arith}
use Rattle.splitter.specs.Told.{held}
use Rattle.splitter.specs.FrontBox.{FrontBox, front_whole}
use Rattle.splitter.proofs.count.children.Goals as goal
use Rattle.splitter.proofs.count.children.Goals.{In-Ok}

box : (c : In-Ok) → FrontBox c.args.s.now c.in-Ok.kind (held c.in-Ok.body) (held c.child_box.new.self)
box c = rw c.new-splitter.ensures at (front_whole _ c.in-Ok.ensures.value c.in-Ok.ensures.left)

pub overflow_sub-to : goal.overflow_sub-to
overflow_sub-to c = let b = box (goal.at.overflow_sub-to c).In-Ok in omega arith

pub overflow_sub-from : goal.overflow_sub-from
overflow_sub-from c = let b = box (goal.at.overflow_sub-from c).In-Ok in omega arith

pub returns-in-Ok : goal.returns-in-Ok
returns-in-Ok c =
    let b = box (goal.at.returns-in-Ok c).In-Ok in
    (rw (c.len.ensures, c.len-in-Ok.ensures) b.is, omega arith)
