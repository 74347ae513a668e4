-- What is left of the number without its last digit is written first, and then that digit.
use Rattle.rules.specs.Laws.Text.{decimal_more}
use Rattle.text.specs.Wrote.{wrote_then}
use Rattle.text.proofs.+put_decimal.Goals as goal

pub returns : goal.returns
returns t c =
    rw (decimal_more c.args.n c.if-n-lt10.false, ← c.digit-2.ensures)
    (wrote_then c.put_decimal-next.ensures c.put_byte-2.ensures)
