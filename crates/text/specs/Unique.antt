-- A text written at a place has one outcome, the place behind it and the buffer: so each contract of this crate determines both.
use Rattle.std.specs.Prelude.{◌≡◌, ℕ, List, length}
use Rattle.std.proofs.Common.{sym, ◌∙◌}
use Rattle.rules.specs.Doc.Listing.{printed}
use Rattle.text.specs.Wrote.{Wrote}

-- of `put`, `put_decimal`, `put_named` and `put_hex`
pub wrote_one : {bytes : List ℕ} {at : ℕ} {before : List ℕ} {r r' : ℕ} {after after' : List ℕ}
    → Wrote bytes at before r after → Wrote bytes at before r' after' → (r ≡ r') × (after ≡ after')
wrote_one p q = (p.place ∙ sym q.place, p.buffer ∙ sym q.buffer)

-- A text at the front of a buffer, as much of it as there is room for, and its length have one outcome: so has every function that writes a text so.
pub text_one : (text out : List ℕ) {r r' : ℕ} {after after' : List ℕ} → (r ≡ length text) × (after ≡ printed text out)
    → (r' ≡ length text) × (after' ≡ printed text out) → (r ≡ r') × (after ≡ after')
text_one text out p q = (p.0 ∙ sym q.0, p.1 ∙ sym q.1)
