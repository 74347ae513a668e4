-- No two outcomes, answer and buffer together, meet a contract of this crate.
use Rattle.std.specs.Prelude.{◌≡◌, ℕ, List, ◌++◌, length, drop}
use Rattle.std.proofs.Common.{sym, ◌∙◌}
use Rattle.rules.specs.Doc.Listing.{listing, printed}
use Rattle.text.specs.Unique.{text_one}

-- of `list_boxes`
pub list_one : (image out : List ℕ) {r r' : ℕ} {after after' : List ℕ} → (r ≡ length (listing image)) × (after ≡ printed (listing image) out)
    → (r' ≡ length (listing image)) × (after' ≡ printed (listing image) out) → (r ≡ r') × (after ≡ after')
list_one image out = text_one (listing image) out

-- of `list_all`
pub all_one : (image out : List ℕ) {r r' : ℕ} {after after' : List ℕ}
    → (r ≡ length (listing image)) × (after ≡ listing image ++ drop (length (listing image)) out)
    → (r' ≡ length (listing image)) × (after' ≡ listing image ++ drop (length (listing image)) out) → (r ≡ r') × (after ≡ after')
all_one image out p q = (p.0 ∙ sym q.0, p.1 ∙ sym q.1)
