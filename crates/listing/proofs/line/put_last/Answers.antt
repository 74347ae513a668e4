-- Texts written one behind the other are one text.
use Rattle.rules.specs.Doc.Listing.{last_text}
use Rattle.text.specs.Wrote.{wrote_then}
use Rattle.listing.proofs.line.put_last.Goals as goal

pub returns : goal.returns
unfolding last_text
returns c = wrote_then (wrote_then c.put_named-at.ensures c.put_named-at-2.ensures) c.put.ensures
