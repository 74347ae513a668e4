-- Texts written one behind the other are one text.
use Rattle.rules.specs.Doc.Listing.{line_of, line_text}
use Rattle.text.specs.Wrote.{wrote_then}
use Rattle.listing.proofs.line.put_line.Goals as goal

pub returns : goal.returns
unfolding line_of line_text
returns c = wrote_then (wrote_then (wrote_then c.put_front-at.ensures c.put_named-at.ensures) c.put_named-at-2.ensures) c.put.ensures
