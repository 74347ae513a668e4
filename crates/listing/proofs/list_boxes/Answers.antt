-- The listing is the lines and behind them the last line, which goes by how the lines ended, and that is what `list_run` answers.
use Rattle.listing.specs.Whole.{whole_long, room_finished, room_fault, whole_finished, whole_fault}
use Rattle.std.proofs.Common.{rules}
use Rattle.listing.proofs.list_boxes.Goals as goal

pub returns-then-image-gt-LONGEST : goal.returns-then-image-gt-LONGEST
returns-then-image-gt-LONGEST c =
    let w = whole_long c.args.image.now (search rules) (rw (c.from.ensures, c.number.ensures) at c.put_last.ensures) in
    record { value = w.0; out_after = w.1 }

pub put_last-requires-in-Ok : goal.put_last-requires-in-Ok
put_last-requires-in-Ok c = search room_finished

pub put_last-requires-in-Err : goal.put_last-requires-in-Err
put_last-requires-in-Err c = rw (c.from-in-Err.ensures, c.number-in-Err.ensures) (search room_fault)

pub returns-in-Ok : goal.returns-in-Ok
returns-in-Ok c =
    let w = whole_finished _ c.if-image-gt-LONGEST.false c.list_run.ensures c.in-Ok.is c.put_last-in-Ok.ensures in
    record { value = w.0; out_after = w.1 }

pub returns-in-Err : goal.returns-in-Err
returns-in-Err c =
    let w = whole_fault _ c.if-image-gt-LONGEST.false c.list_run.ensures c.in-Err.is (rw (c.from-in-Err.ensures, c.number-in-Err.ensures) at c.put_last-in-Err.ensures) in
    record { value = w.0; out_after = w.1 }
