-- Texts written one behind the other are one text.
use Rattle.rules.specs.Doc.Listing.{front_text}
use Rattle.text.specs.Wrote.{wrote_then}
use Rattle.listing.proofs.line.put_front.Goals as goal

pub returns : goal.returns
unfolding front_text
returns c = wrote_then (wrote_then (wrote_then c.put_named-at.ensures c.put_named-at-2.ensures) c.put-at.ensures) c.put_hex.ensures
