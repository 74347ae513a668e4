-- The higher digits are written first, and then the last.
use Rattle.rules.specs.Laws.Text.{hex_more}
use Rattle.text.specs.Wrote.{wrote_then}
use Rattle.text.proofs.+put_hex.Goals as goal

pub returns : goal.returns
returns t c =
    rw (hex_more c.args.k c.args.n c.if-k-eq0.false, ← c.digit.ensures)
    (wrote_then c.put_hex-next.ensures c.put_byte.ensures)
