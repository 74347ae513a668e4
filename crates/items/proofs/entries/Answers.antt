-- A box that was read is whole: so its body can be taken, and the boxes behind it leave what is still to come.
use Rattle.std.proofs.Common.{rules}
use Rattle.boxes.specs.Loops.{box_refused, box_whole}
use Rattle.items.specs.Wanted.{entries_cut, entries_refused, entries_exif, entries_same, entries_other}
use Rattle.items.proofs.entries.Goals as goal
use Rattle.items.proofs.entries.Goals.{then-child-eq-INFE+in_ok-exif+in-Some, then-child-eq-INFE+in_ok-exif+in_default, else-child-eq-INFE}

pub slice_bounds-parse_infe-count : goal.slice_bounds-parse_infe-count
slice_bounds-parse_infe-count c = (box_whole _ _ (c.read.ensures 3) (c.child_box.ensures _) c.in_ok-child.was).order

pub slice_bounds-parse_infe-start : goal.slice_bounds-parse_infe-start
slice_bounds-parse_infe-start c = (box_whole _ _ (c.read.ensures 3) (c.child_box.ensures _) c.in_ok-child.was).order

pub slice_bounds-parse_infe-end : goal.slice_bounds-parse_infe-end
slice_bounds-parse_infe-end c = (box_whole _ _ (c.read.ensures 3) (c.child_box.ensures _) c.in_ok-child.was).inner

pub returns-in_err-child : goal.returns-in_err-child
returns-in_err-child c =
    let b = box_refused _ _ (c.read.ensures 3) (c.child_box.ensures _) c.in_err-child.was in
    search (rules, entries_cut)

pub returns-in_err-exif : goal.returns-in_err-exif
returns-in_err-exif c =
    let b = box_whole _ _ (c.read.ensures 3) (c.child_box.ensures _) c.in_ok-child.was in
    search (rules, entries_refused)

pub loop-preserved : goal.loop-preserved
loop-preserved c =
    let b = box_whole _ _ (c.read.ensures 3) (c.child_box.ensures _) c.in_ok-child.was in
    elim c.if-child-eq-INFE.branch [
      | then-child-eq-INFE+in_ok-exif+in-Some w ↦ let f = rw w.in-Some.is at w.in_ok-exif.ensures in rw w.item-is (search entries_exif)
      | then-child-eq-INFE+in_ok-exif+in_default w ↦ let f = rw w.in_default.is at w.in_ok-exif.ensures in rw w.item-is (search entries_same)
      | else-child-eq-INFE w ↦ rw w.item-is (search entries_other)
    ]
