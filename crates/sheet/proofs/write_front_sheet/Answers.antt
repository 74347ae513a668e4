-- The sheet of what was read is that of every input with this front (`of_every`); more than the front holds was not read.
use Rattle.std.proofs.Common.{sym, arith}
use Rattle.std.proofs.lemmas.List.{take_min}
use Rattle.sheet.specs.Fronts.{of_every}
use Rattle.sheet.proofs.write_front_sheet.Goals as goal

pub returns : goal.returns
returns c =
    let a = c.args in
    let told = c.write_whole_sheet.ensures in
    record {
      every = of_every a.front.now a.n (omega (arith, c.told-front)) (sym (rw (c.min.ensures, ← c.told-front) (take_min a.n a.front.now))) told.value.0 told.out_after;
      inside = told.value.1;
    }
