-- The answer's number and length as text, and that writing them one behind the other is to copy it.
use Rattle.std.specs.Prelude.{◌≡◌, refl, ℕ, ◌-◌, min, List, ◌++◌, length}
use Rattle.std.proofs.Common.{arith, length-take}
use Rattle.std.proofs.Math.Seq.{length-sets}
use Rattle.rules.specs.Doc.Text.{ascii, digit, decimal_to, decimal}
use Rattle.rules.specs.Doc.Listing.{named}
use Rattle.text.specs.Wrote.{Wrote, wrote_then}
use Rattle.output.specs.Copied.{Copied}

unfoldable pub numbers_text : ℕ → ℕ → List ℕ
numbers_text number length = named "answer=" number ++ named " length=" length

-- One of them, computed.
needed : numbers_text 28 65531 ≡ ascii "answer=28 length=65531"
unfolding numbers_text decimal decimal_to digit
needed = refl

-- What is written is copied as far as there is room.
pub written_copied : (n m : ℕ) {at end r : ℕ} {before between after : List ℕ} → Wrote (named "answer=" n) 0 before at between
    → Wrote (named " length=" m) at between end after → r ≡ min end (length after) → Copied (numbers_text n m) 0 before r after
unfolding numbers_text
written_copied n m {before = before} w v e =
    let both = wrote_then w v in
    let text = named "answer=" n ++ named " length=" m in
    let kept = rw (← both.buffer) at (length-sets before 0 text) in
    record {
      place = rw (length-take (length before - 0) text) (omega (arith, both.place, kept, e));
      buffer = both.buffer;
    }
