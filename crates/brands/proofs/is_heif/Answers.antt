-- A box that was read is whole: so its body can be taken. Each way on is a step of `heif_from` or of `known_from`.
use native.Mathlib.Omega.{arith}
use Rattle.boxes.specs.Loops.{box_refused, box_whole}
use Rattle.brands.specs.Brands.{heif_refused, heif_other, heif_small, heif_brands, brand_none, brand_known, brand_other}
use Rattle.brands.proofs.is_heif.Goals as goal

pub slice_bounds-body-count : goal.slice_bounds-body-count
slice_bounds-body-count c = (box_whole _ _ (c.read.ensures 3) (c.child_box.ensures _) c.in-Ok.is).order

pub slice_bounds-body-start : goal.slice_bounds-body-start
slice_bounds-body-start c = (box_whole _ _ (c.read.ensures 3) (c.child_box.ensures _) c.in-Ok.is).order

pub slice_bounds-body-end : goal.slice_bounds-body-end
slice_bounds-body-end c = (box_whole _ _ (c.read.ensures 3) (c.child_box.ensures _) c.in-Ok.is).inner

pub loop-i-init : goal.loop-i-init
loop-i-init c =
    let b = box_whole _ _ (c.read.ensures 3) (c.child_box.ensures _) c.in-Ok.is in
    (omega arith, search (heif_brands, b))

pub loop-i-preserved : goal.loop-i-preserved
loop-i-preserved c = (omega arith, search brand_other)

pub boxes-smaller : goal.boxes-smaller
boxes-smaller c = (box_whole _ _ (c.read.ensures 3) (c.child_box.ensures _) c.in-Ok.is).less

pub boxes-preserved : goal.boxes-preserved
boxes-preserved c =
    let b = box_whole _ _ (c.read.ensures 3) (c.child_box.ensures _) c.in-Ok.is in
    search (heif_other, b)

pub returns-in_default : goal.returns-in_default
returns-in_default c =
    let b = box_refused _ _ (c.read.ensures 3) (c.child_box.ensures _) c.in_default.is in
    search heif_refused

pub returns-then-body-lt-COMPATIBLE : goal.returns-then-body-lt-COMPATIBLE
returns-then-body-lt-COMPATIBLE c =
    let b = box_whole _ _ (c.read.ensures 3) (c.child_box.ensures _) c.in-Ok.is in
    search (heif_small, b)

pub returns-then-is_known : goal.returns-then-is_known
returns-then-is_known c = search brand_known

pub returns-after-loop-i : goal.returns-after-loop-i
returns-after-loop-i c = search brand_none
