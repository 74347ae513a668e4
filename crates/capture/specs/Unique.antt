-- No two answers say the same, so the contracts of `from_block` and `from_image` determine their answers; that of `from_image` the output too.
use Rattle.std.specs.Prelude.{◌≡◌, List, ℕ, Result, ltb, if◌then◌else◌}
use Rattle.std.proofs.Common.{sym, ap, ◌∙◌, arith, lt-ltb}
use Rattle.jpeg_rules.specs.Doc.Either.{either_answer}
use Rattle.rules.specs.Results.{result_one, as_option, option_back}
use Rattle.boxes.specs.Unique.{as_refusal, refusal_back, number_limit}
use Rattle.boxes.specs.Told as boxes
use Rattle.dates.specs.Unique.{as_time}
use Rattle.fraction.specs.Told.{fraction_of}
use Rattle.fraction.specs.Unique.{as_fraction, fraction_back}
use Rattle.tiff.specs.Unique.{as_fault, fault_back}
use Rattle.tiff.specs.Told as tiff
use Rattle.tiff.specs.declared.fault.Fault.{Fault}
use Rattle.tiff.specs.declared.fault.Fault.TheVariants as x
use Rattle.capture_rules.specs.Doc.Capture as doc
use Rattle.capture.specs.Told.{capture_of, captured_of, number, photo_of}
use Rattle.capture.specs.declared.Capture.{Capture}
use Rattle.capture.specs.declared.NotRead.{NotRead}
use Rattle.capture.specs.declared.NotRead.TheVariants.{NoBlock, Unread}

-- ---- What was read

as_capture : doc.Capture → Capture
as_capture a = record { time = as_time a.time; bias = as_option fraction_of as_fraction fraction_back a.bias }

capture_back : (a : Capture) → as_capture (capture_of a) ≡ a
unfolding as_capture
capture_back a = rw (option_back fraction_of as_fraction fraction_back a.bias)

-- of `from_block`
pub block_one : (block : List ℕ) {p q : Result Capture Fault} → captured_of p ≡ doc.capture block → captured_of q ≡ doc.capture block → p ≡ q
block_one block e g = result_one tiff.number as_fault fault_back capture_of as_capture capture_back e g

-- ---- Why nothing was read: extraction's numbers are below 34, the block's are not

as_not_read : ℕ → NotRead
as_not_read n = if ltb n 34 then NoBlock (as_refusal n) else Unread (as_fault n)

not_read_back : (e : NotRead) → as_not_read (number e) ≡ e
unfolding as_not_read
not_read_back (NoBlock e) = rw (lt-ltb (boxes.number e) 34 (omega (arith, number_limit e))) (ap NoBlock (refusal_back e))
not_read_back (Unread x.Header) = ap Unread (fault_back x.Header)
not_read_back (Unread x.Outside) = ap Unread (fault_back x.Outside)
not_read_back (Unread x.NoExifPointer) = ap Unread (fault_back x.NoExifPointer)
not_read_back (Unread x.NoDate) = ap Unread (fault_back x.NoDate)
not_read_back (Unread x.BiasType) = ap Unread (fault_back x.BiasType)
not_read_back (Unread x.ZeroDenominator) = ap Unread (fault_back x.ZeroDenominator)

-- of `NotRead::number`
pub not_read_number_one : (e : NotRead) {m n : ℕ} → m ≡ number e → n ≡ number e → m ≡ n
not_read_number_one e p q = p ∙ sym q

-- of `from_image`
pub image_one : (img out : List ℕ) {p q : Result Capture NotRead} {after after' : List ℕ}
    → photo_of p ≡ doc.photo img out → after ≡ (either_answer img out).output → photo_of q ≡ doc.photo img out → after' ≡ (either_answer img out).output
    → (p ≡ q) × (after ≡ after')
image_one img out e g h k = (result_one number as_not_read not_read_back capture_of as_capture capture_back e h, g ∙ sym k)
