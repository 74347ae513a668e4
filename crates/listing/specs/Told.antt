-- What the answers say, in document 01's words.
use Rattle.std.specs.Prelude.{ℕ, Result, Ok, Err, Option}
use Rattle.std.proofs.Math.Option as math
use Rattle.rules.specs.Doc.Outcomes.{Outcome}
use Rattle.rules.specs.Doc.Headers.{Box, box_of}
use Rattle.rules.specs.Doc.Listing.{Listing, finished, fault}
use Rattle.rules.specs.Results.{outcome, perhaps}
use Rattle.boxes.specs.Told.{number}
use Rattle.boxes.specs.declared.refusal.Refusal.{Refusal}
use Rattle.listing.specs.declared.Fault.{Fault}
use Rattle.listing.specs.declared.found.Found.{Found}

abbrev pub box_in : Found → Box
box_in b = box_of b.start b.child.kind b.child.from b.child.to

abbrev pub found_of : Result Found Refusal → Outcome Box
found_of = outcome number box_in

-- where children start
abbrev pub starts : Result (Option ℕ) Refusal → Outcome (math.Option ℕ)
starts = outcome number (perhaps (λ v. v))

-- how a listing ended, and how much text was written
abbrev pub told : Result ℕ Fault → Listing
told (Ok n) = finished
told (Err f) = fault f.at (number f.why)

abbrev pub text_end : Result ℕ Fault → ℕ
text_end (Ok n) = n
text_end (Err f) = f.written
