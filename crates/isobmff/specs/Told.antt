-- What the answers say: document 01's number, or the values, of each case.
use Rattle.std.specs.Prelude.{ℕ, Bool, Result, Option}
use Rattle.std.proofs.Math.Option as math
use Rattle.rules.specs.Doc.Outcomes.{Outcome}
use Rattle.rules.specs.Doc.Bytes as doc-bytes
use Rattle.rules.specs.Doc.Children as doc
use Rattle.rules.specs.Results.{outcome, perhaps}
use Rattle.boxes.specs.Told.{number}
use Rattle.boxes.specs.Told as boxes
use Rattle.boxes.specs.declared.refusal.Refusal.{Refusal}
use Rattle.boxes.specs.declared.span.Span.{Span}
use Rattle.items.specs.Told.{id_of}
use Rattle.isobmff.specs.declared.top.Next.{Next}
use Rattle.isobmff.specs.declared.top.Next.TheVariants as n
use Rattle.isobmff.specs.declared.meta.Met.{Met}
use Rattle.isobmff.specs.declared.meta.Kept.{Kept}

abbrev pub place_of : Span → doc-bytes.Span
place_of = boxes.span_of

-- ---- The top level

-- what a box leads to: on, with whether an `ftyp` was met, or to the body of `meta`
pub data Lead : Type 0 where
  on : Bool → ℕ → Lead
  found : doc-bytes.Span → Lead

abbrev pub lead_of : Next → Lead
lead_of (n.On checked at) = on checked at
lead_of (n.Meta body) = found (place_of body)

abbrev pub body_of : Result ℕ Refusal → Outcome ℕ
body_of = outcome number (λ to. to)

abbrev pub next_of : Result Next Refusal → Outcome Lead
next_of = outcome number lead_of

abbrev pub top_of : Result Span Refusal → Outcome doc-bytes.Span
top_of = outcome number place_of

-- ---- The children of `meta`

-- what the children so far leave
pub record State : Type 0 where
  pub wanted : math.Option ℕ
  pub iloc : math.Option doc-bytes.Span
  pub idat : math.Option doc-bytes.Span

abbrev pub span_of : Option Span → math.Option doc-bytes.Span
span_of = perhaps place_of

abbrev pub state_of : Met → State
state_of m = record { wanted = id_of m.item_id; iloc = span_of m.iloc; idat = span_of m.idat }

abbrev pub met_of : Result Met Refusal → Outcome State
met_of = outcome number state_of

abbrev pub kept_of : Result Kept Refusal → Outcome doc.Kept
kept_of = outcome number (λ k. record { wanted = k.item_id; iloc = place_of k.iloc; idat = span_of k.idat })
