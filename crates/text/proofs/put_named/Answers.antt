-- A name and a number written one behind the other are one text (`wrote_then`).
use Rattle.text.specs.Wrote.{wrote_then}
use Rattle.text.proofs.put_named.Goals as goal

pub returns : goal.returns
returns c = wrote_then c.put-at.ensures c.put_decimal.ensures
