-- What was counted is what the definition counts, and the text of it is written from the front on.
use mathlib.Core.Path.{sym}
use Rattle.text.specs.Wrote.{from_front}
use Rattle.sheet.specs.Printed.{sums_sheet, wrong_sheet}
use Rattle.sheet.proofs.write_sheet.Goals as goal

pub returns-in-Ok : goal.returns-in-Ok
returns-in-Ok c =
    let told = from_front (rw (sym (sums_sheet _ _ c.in-Ok.totals c.in-Ok.ensures)) at c.put_sums.ensures) in
    record { value = told.0; out_after = told.1 }

pub returns-in-Err : goal.returns-in-Err
returns-in-Err c =
    let told = from_front (rw (sym (wrong_sheet _ c.in-Err.ensures)) at c.put_wrong.ensures) in
    record { value = told.0; out_after = told.1 }
