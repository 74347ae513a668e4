-- No two outcomes, answer and output together, meet a contract of this crate.
use Rattle.std.specs.Prelude.{◌≡◌, Bool, List, ℕ, length}
use Rattle.std.proofs.Common.{sym, ◌∙◌}
use Rattle.rules.specs.Doc.Answers.{answer}
use Rattle.rules.specs.Doc.Heif.{is_heif}
use Rattle.rules.specs.Doc.Listing.{listing, printed}
use Rattle.jpeg_rules.specs.Doc.Either.{either_answer}
use Rattle.sheet_rules.specs.Doc.Sheet.{sheet}
use Rattle.text.specs.Unique.{text_one}
use Rattle.coinbarrow.specs.Halves.{unpacked}
use Rattle.coinbarrow.specs.Callers.{packed_one}

-- of `coinbarrow_exif`
pub exif_one : (img out : List ℕ) (r s : ℕ) (after after' : List ℕ) → unpacked r after ≡ answer img out → unpacked s after' ≡ answer img out
    → (r ≡ s) × (after ≡ after')
exif_one img out = packed_one (answer img out)

-- of `coinbarrow_photo`
pub photo_one : (img out : List ℕ) (r s : ℕ) (after after' : List ℕ) → unpacked r after ≡ either_answer img out → unpacked s after' ≡ either_answer img out
    → (r ≡ s) × (after ≡ after')
photo_one img out = packed_one (either_answer img out)

-- of `coinbarrow_is_heif`
pub heif_one : (bytes : List ℕ) {x y : Bool} → x ≡ is_heif bytes → y ≡ is_heif bytes → x ≡ y
heif_one bytes e f = e ∙ sym f

-- of `coinbarrow_list`
pub list_one : (image out : List ℕ) {r r' : ℕ} {after after' : List ℕ} → (r ≡ length (listing image)) × (after ≡ printed (listing image) out)
    → (r' ≡ length (listing image)) × (after' ≡ printed (listing image) out) → (r ≡ r') × (after ≡ after')
list_one image out = text_one (listing image) out

-- of `coinbarrow_sheet`
pub sheet_one : (lines out : List ℕ) {r r' : ℕ} {after after' : List ℕ} → (r ≡ length (sheet lines)) × (after ≡ printed (sheet lines) out)
    → (r' ≡ length (sheet lines)) × (after' ≡ printed (sheet lines) out) → (r ≡ r') × (after ≡ after')
sheet_one lines out = text_one (sheet lines) out
