-- What is lent to `extract_item` are parts that lie inside, by what `parse_meta` found.
use Rattle.isobmff.specs.Whole.{iloc_inside, idat_inside, no_idat, its_idat, kept_answer}
use Rattle.isobmff.proofs.from_meta.Goals as goal
use Rattle.isobmff.proofs.from_meta.Goals.{in-Some, in-None}

pub slice_bounds-iloc-count : goal.slice_bounds-iloc-count
slice_bounds-iloc-count c = (iloc_inside _ c.parse_meta.ensures c.in_ok-kept.was).order

pub slice_bounds-iloc-start : goal.slice_bounds-iloc-start
slice_bounds-iloc-start c = (iloc_inside _ c.parse_meta.ensures c.in_ok-kept.was).order

pub slice_bounds-iloc-end : goal.slice_bounds-iloc-end
slice_bounds-iloc-end c = (iloc_inside _ c.parse_meta.ensures c.in_ok-kept.was).inner

pub slice_bounds-idat-count : goal.slice_bounds-idat-count
slice_bounds-idat-count c = (idat_inside _ c.parse_meta.ensures c.in_ok-kept.was c.in-Some.is).order

pub slice_bounds-idat-start : goal.slice_bounds-idat-start
slice_bounds-idat-start c = (idat_inside _ c.parse_meta.ensures c.in_ok-kept.was c.in-Some.is).order

pub slice_bounds-idat-end : goal.slice_bounds-idat-end
slice_bounds-idat-end c = (idat_inside _ c.parse_meta.ensures c.in_ok-kept.was c.in-Some.is).inner

pub returns : goal.returns
returns c =
    kept_answer _ c.parse_meta.ensures c.in_ok-kept.was _ _
    (elim c.match-kept.branch [
      | in-Some w ↦ rw w.idat-is (its_idat _ c.parse_meta.ensures c.in_ok-kept.was w.in-Some.is)
      | in-None w ↦ rw w.idat-is (no_idat _ c.parse_meta.ensures c.in_ok-kept.was w.in-None.is)
    ])
    c.extract_item.ensures
