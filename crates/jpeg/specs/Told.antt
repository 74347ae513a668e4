-- What the answers say: the number, or the values, of each case.
use Rattle.std.specs.Prelude.{ℕ, Result}
use Rattle.rules.specs.Doc.Outcomes.{Outcome}
use Rattle.rules.specs.Doc.Bytes as doc
use Rattle.rules.specs.Results.{outcome}
use Rattle.boxes.specs.Told.{number}
use Rattle.boxes.specs.Told as boxes
use Rattle.boxes.specs.declared.refusal.Refusal.{Refusal}
use Rattle.boxes.specs.declared.span.Span.{Span}
use Rattle.jpeg.specs.declared.segment.Next.{Next}
use Rattle.jpeg.specs.declared.segment.Next.TheVariants as n

-- what a segment leads to: the next one's position, or where the block lies
pub data Lead : Type 0 where
  on : ℕ → Lead
  block : doc.Span → Lead

abbrev pub body_of : Result ℕ Refusal → Outcome ℕ
body_of = outcome number (λ to. to)

abbrev pub span_of : Span → doc.Span
span_of = boxes.span_of

abbrev pub lead_to : Next → Lead
lead_to (n.On at) = on at
lead_to (n.Found b) = block (span_of b)

abbrev pub next_of : Result Next Refusal → Outcome Lead
next_of = outcome number lead_to

abbrev pub found_of : Result Span Refusal → Outcome doc.Span
found_of = outcome number span_of
