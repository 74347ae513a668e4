-- What include/coinbarrow.h tells callers of the number and of the text, for every call, from the contracts alone: `r` is what a call gives back,
-- `after` the output after it.
use Rattle.std.specs.Prelude.{◌≡◌, ℕ, ◌+◌, ◌*◌, ◌/◌, ◌%◌, ◌^◌, ◌≤◌, ◌<◌, Bool, true, false, List, ◌++◌, length, take, drop}
use Rattle.std.proofs.Common.{sym, ap, ◌∙◌, arith, append-nil, take_all}
use Rattle.std.proofs.Math.ListN.{drop_of_length-le}
use Rattle.rules.specs.Doc.Answers.{Answer, answer}
use Rattle.rules.specs.Doc.Heif.{is_heif}
use Rattle.rules.specs.Doc.Text.{ascii}
use Rattle.rules.specs.Doc.Listing.{newline, listing, printed}
use Rattle.rules.specs.Unfold.{document}
use Rattle.rules.specs.Demands.One.{length_limit, number_limit, always_room}
use Rattle.rules.specs.Laws.Endian.{Bytes}
use Rattle.rules.specs.Laws.ListingLength.{listing_length}
use Rattle.jpeg_rules.specs.Doc.Block.{is_jpeg, jpeg_answer}
use Rattle.jpeg_rules.specs.Doc.Either.{either_answer}
use Rattle.jpeg_rules.specs.Laws.Asked.{as_heif, as_jpeg, as_neither}
use Rattle.jpeg_rules.specs.Demands.One.{InStartedTable, started_number, either_length, either_number, either_between, either_room}
use Rattle.sheet_rules.specs.Doc.Sheet.{sheet}
use Rattle.sheet_rules.specs.Laws.SheetLength.{sheet_length}
use Rattle.listing.specs.Whole.{too_long}
use Rattle.coinbarrow.specs.Halves.{unpacked}

-- ---- The number that `coinbarrow_exif` or `coinbarrow_photo` gives back

module _ (d : Answer) (r : ℕ) (after : List ℕ) (meets : unpacked r after ≡ d) where
  upper : r / 2 ^ 32 ≡ d.number
  upper = ap (λ (a : Answer). a.number) meets

  lower : r % 2 ^ 32 ≡ d.length
  lower = ap (λ (a : Answer). a.length) meets

  -- It is the answer's number times 2^32, plus the length.
  pub is_sum : r ≡ d.number * 2 ^ 32 + d.length
  is_sum = omega (arith, upper, lower)

-- Two numbers that say one answer are the same, and so are the outputs.
pub packed_one : (d : Answer) (r s : ℕ) (after after' : List ℕ) → unpacked r after ≡ d → unpacked s after' ≡ d → (r ≡ s) × (after ≡ after')
packed_one d r s after after' e f = (is_sum d r after e ∙ sym (is_sum d s after' f), ap (λ (a : Answer). a.output) (e ∙ sym f))

-- Of HEIF: the upper half is at most 26, or 28; the lower at most 65,531; and an output of 65,531 bytes always has room.
module _ (img out : List ℕ) (r : ℕ) (after : List ℕ) (meets : unpacked r after ≡ answer img out) where
  pub upper_limit : 26 < r / 2 ^ 32 → r / 2 ^ 32 ≡ 28
  upper_limit h =
      let u = upper (answer img out) r after meets in
      u ∙ number_limit img out (omega arith)

  pub lower_limit : r % 2 ^ 32 ≤ 65531
  lower_limit = omega (arith, lower (answer img out) r after meets, length_limit img out)

  pub enough_room : 65531 ≤ length out → r / 2 ^ 32 ≡ 28 → ⊥
  enough_room h e = always_room img out h (omega (arith, upper (answer img out) r after meets))

-- Of HEIF or JPEG: the upper half is at most 33, and none from 27 to 31 but 28; the rest is the same, of an image that is made of bytes.
module _ (img out : List ℕ) (r : ℕ) (after : List ℕ) (meets : unpacked r after ≡ either_answer img out) where
  pub photo_upper_limit : r / 2 ^ 32 ≤ 33
  photo_upper_limit = omega (arith, upper (either_answer img out) r after meets, either_number img out)

  pub photo_upper_between : 26 < r / 2 ^ 32 → r / 2 ^ 32 < 32 → r / 2 ^ 32 ≡ 28
  photo_upper_between h k =
      let u = upper (either_answer img out) r after meets in
      u ∙ either_between img out (omega arith) (omega arith)

  pub photo_lower_limit : Bytes img → r % 2 ^ 32 ≤ 65531
  photo_lower_limit b = omega (arith, lower (either_answer img out) r after meets, either_length img out b)

  pub photo_enough_room : Bytes img → 65531 ≤ length out → r / 2 ^ 32 ≡ 28 → ⊥
  photo_enough_room b h e = either_room img out b h (omega (arith, upper (either_answer img out) r after meets))

-- By what `coinbarrow_is_heif` says of the image, `heif`.
module _ (img out : List ℕ) {heif : Bool} (asked : heif ≡ is_heif img) (r : ℕ) (after : List ℕ) (meets : unpacked r after ≡ either_answer img out) where
  -- Where it says yes, `coinbarrow_photo` does what `coinbarrow_exif` does: `s` and `after'` are what that gives. So it does where the image is neither.
  module _ (s : ℕ) (after' : List ℕ) (exif : unpacked s after' ≡ answer img out) where
    pub photo_of_heif : heif ≡ true → (r ≡ s) × (after ≡ after')
    photo_of_heif h = packed_one (answer img out) r s after after' (meets ∙ as_heif img out (sym asked ∙ h)) exif

    pub photo_of_neither : heif ≡ false → is_jpeg img ≡ false → (r ≡ s) × (after ≡ after')
    photo_of_neither h j = packed_one (answer img out) r s after after' (meets ∙ as_neither img out (sym asked ∙ h) j) exif

  -- Of any other that starts FF D8 the upper half is 0, 28, 1, 2, 32 or 33.
  pub photo_of_jpeg : heif ≡ false → is_jpeg img ≡ true → InStartedTable (r / 2 ^ 32)
  photo_of_jpeg h j = rw (upper (jpeg_answer img out) r after (meets ∙ as_jpeg img out (sym asked ∙ h) j)) (started_number img out j)

-- ---- The text that `coinbarrow_list` or `coinbarrow_sheet` writes

module _ (text out : List ℕ) (r : ℕ) (after : List ℕ) (meets : (r ≡ length text) × (after ≡ printed text out)) where
  -- An output that is as long as the text, or longer, holds all of it, and is unchanged behind it.
  pub text_whole : r ≤ length out → after ≡ text ++ drop r out
  unfolding printed
  text_whole h = meets.1 ∙ rw (take_all (length out) text (omega (arith, meets.0)), meets.0)

  -- A shorter one holds as much of its front as it has bytes.
  pub text_cut : length out ≤ r → after ≡ take (length out) text
  unfolding printed
  text_cut h = meets.1 ∙ rw (← meets.0, drop_of_length-le out h) (append-nil _)

  -- Where it is not longer than `most`, the answer is no more than that, and an output of so many bytes holds all of it.
  pub text_limit : (most : ℕ) → length text ≤ most → (r ≤ most) × (most ≤ length out → after ≡ text ++ drop r out)
  text_limit most l = (omega (arith, meets.0), λ h. text_whole (omega (arith, meets.0)))

-- No listing is longer than 458,771 bytes: an output of so many holds every one.
pub listing_limit : (img out : List ℕ) (r : ℕ) (after : List ℕ) → (r ≡ length (listing img)) × (after ≡ printed (listing img) out)
    → (r ≤ 458771) × (458771 ≤ length out → after ≡ listing img ++ drop r out)
listing_limit img out r after meets = text_limit (listing img) out r after meets 458771 (listing_length img)

-- That of an image that is longer than 65,536 bytes is this line.
pub text_too_long : (img : List ℕ) → 65536 < length img → listing img ≡ ascii "end=65536 answer=29" ++ newline
unfolding document
text_too_long img h = too_long img h

-- No sheet is longer than 2,350 bytes: an output of so many holds every one.
pub sheet_limit : (lines out : List ℕ) (r : ℕ) (after : List ℕ) → (r ≡ length (sheet lines)) × (after ≡ printed (sheet lines) out)
    → (r ≤ 2350) × (2350 ≤ length out → after ≡ sheet lines ++ drop r out)
sheet_limit lines out r after meets = text_limit (sheet lines) out r after meets 2350 (sheet_length lines)
