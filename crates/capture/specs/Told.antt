-- What the answers say: the number that document 01 or request six has for a refusal, or what was read.
use Rattle.std.specs.Prelude.{ℕ, Result, Option}
use Rattle.std.proofs.Math.Option as math
use Rattle.rules.specs.Doc.Outcomes.{Outcome}
use Rattle.rules.specs.Results.{outcome, perhaps}
use Rattle.capture_rules.specs.Doc.Time as doc-time
use Rattle.capture_rules.specs.Doc.Fraction as doc-fraction
use Rattle.capture_rules.specs.Doc.Capture as doc
use Rattle.boxes.specs.Told as boxes
use Rattle.boxes.specs.declared.refusal.Refusal.TheVariants as refusal
use Rattle.output.specs.declared.NoBlock as output
use Rattle.output.specs.declared.NoBlock.TheVariants.{NoRoom, Refused}
use Rattle.tiff.specs.Told as tiff
use Rattle.tiff.specs.declared.fault.Fault.{Fault}
use Rattle.dates.specs.Told.{time_of}
use Rattle.dates.specs.declared.Time.{Time}
use Rattle.fraction.specs.Told.{fraction_of}
use Rattle.fraction.specs.declared.Fraction.{Fraction}
use Rattle.capture.specs.declared.Capture.{Capture}
use Rattle.capture.specs.declared.NotRead.{NotRead}
use Rattle.capture.specs.declared.NotRead.TheVariants.{NoBlock, Unread}

abbrev pub pointer_of : Result ℕ Fault → Outcome ℕ
pointer_of = outcome tiff.number (λ at. at)

abbrev pub dated_of : Result Time Fault → Outcome doc-time.Time
dated_of = outcome tiff.number time_of

abbrev pub ratio_of : Result Fraction Fault → Outcome doc-fraction.Fraction
ratio_of = outcome tiff.number fraction_of

abbrev pub bias_of : Option Fraction → math.Option doc-fraction.Fraction
bias_of = perhaps fraction_of

abbrev pub biased_of : Result (Option Fraction) Fault → Outcome (math.Option doc-fraction.Fraction)
biased_of = outcome tiff.number bias_of

abbrev pub capture_of : Capture → doc.Capture
capture_of x = record { time = time_of x.time; bias = bias_of x.bias }

-- of a block
abbrev pub captured_of : Result Capture Fault → Outcome doc.Capture
captured_of = outcome tiff.number capture_of

-- of an image: extraction's number, or the block's
abbrev pub number : NotRead → ℕ
number (NoBlock e) = boxes.number e
number (Unread e) = tiff.number e

-- why extraction handed out no block
abbrev pub not_handed : output.NoBlock → NotRead
not_handed (NoRoom n) = NoBlock refusal.NoRoom
not_handed (Refused e) = NoBlock e

abbrev pub photo_of : Result Capture NotRead → Outcome doc.Capture
photo_of = outcome number capture_of
