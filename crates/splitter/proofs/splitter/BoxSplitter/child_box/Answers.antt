-- The box is whole or refused by what `read` and `child_box` say together; then it is handed out as it stands, and what follows is left.
use Rattle.std.proofs.Common.{arith}
use Rattle.boxes.specs.Loops.{WholeBox, box_refused, box_whole}
use Rattle.splitter.specs.Taken.{whole_handed, whole_left, refused_handed, refused_left}
use Rattle.splitter.proofs.splitter.BoxSplitter.child_box.Goals as goal
use Rattle.splitter.proofs.splitter.BoxSplitter.child_box.Goals.{In-Ok}

-- the box, once it is known to be whole
box : (c : In-Ok) → WholeBox c.args.self.now.inner.now 0 c.in-Ok.field-0.kind c.in-Ok.field-0.from c.in-Ok.field-0.to
box c = box_whole _ _ (c.read.ensures 3) (c.child_box.ensures _) c.in-Ok.is

pub slice_bounds-self-count : goal.slice_bounds-self-count
slice_bounds-self-count c = let b = box (goal.at.slice_bounds-self-count c).In-Ok in omega arith

pub slice_bounds-self-start : goal.slice_bounds-self-start
slice_bounds-self-start c = let b = box (goal.at.slice_bounds-self-start c).In-Ok in omega arith

pub slice_bounds-new-count : goal.slice_bounds-new-count
slice_bounds-new-count c = (box (goal.at.slice_bounds-new-count c).In-Ok).order

pub slice_bounds-new-start : goal.slice_bounds-new-start
slice_bounds-new-start c = (box (goal.at.slice_bounds-new-start c).In-Ok).order

pub slice_bounds-new-end : goal.slice_bounds-new-end
slice_bounds-new-end c = (box (goal.at.slice_bounds-new-end c).In-Ok).inner

pub returns-in-Ok-clause-value : goal.returns-in-Ok-clause-value
returns-in-Ok-clause-value c =
    let h = whole_handed _ _ (box (goal.at.returns-in-Ok-clause-value c).In-Ok) in
    rw c.new.ensures h

pub returns-in-Ok-clause-left : goal.returns-in-Ok-clause-left
returns-in-Ok-clause-left c = whole_left _ _ (box (goal.at.returns-in-Ok-clause-left c).In-Ok)

pub returns-in-Err-clause-value : goal.returns-in-Err-clause-value
returns-in-Err-clause-value c = refused_handed _ _ (box_refused _ _ (c.read.ensures 3) (c.child_box.ensures _) c.in-Err.is)

pub returns-in-Err-clause-left : goal.returns-in-Err-clause-left
returns-in-Err-clause-left c =
    refused_left _ (box_refused _ _ (c.read.ensures 3) (c.child_box.ensures _) c.in-Err.is) c.header_read.ensures.value c.header_read.ensures.inside
