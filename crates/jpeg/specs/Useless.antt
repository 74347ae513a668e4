-- Useless readers, and slips, are shut out: what a call that meets the contract of `get_exif_attr` gives for the images that show them.
use Rattle.std.specs.Prelude.{◌≡◌, refl, ℕ, List, [], take, Ok, Err}
use Rattle.std.proofs.Common.{sym, ap, ◌∙◌, arith}
use Rattle.rules.specs.Doc.Bytes.{byte_at}
use Rattle.rules.specs.Cases.{line, fresh}
use Rattle.boxes.specs.declared.refusal.Refusal.TheVariants.{NotFound, NotJpeg}
use Rattle.jpeg_rules.specs.Doc.Block.{jpeg_answer}
use Rattle.jpeg_rules.specs.Unfold.{request}
use Rattle.jpeg_rules.specs.Cases.{J, before}
use Rattle.output.specs.Told.{Extracted, told}
use Rattle.output.specs.declared.NoBlock.TheVariants.{NoRoom, Refused}
use Rattle.jpeg.specs.Unique.{attr_one}

-- every call with this image and this output answers x, and leaves `after` in the output
abbrev pub Gives : List ℕ → List ℕ → Extracted → List ℕ → Type 0
Gives img out x after = (r : Extracted) (a : List ℕ) → told r a ≡ jpeg_answer img out → (r ≡ x) × (a ≡ after)

gives : (img out : List ℕ) (x : Extracted) (after : List ℕ) → told x after ≡ jpeg_answer img out → Gives img out x after
gives img out x after e r a f = attr_one img out r x a after f e

-- J's block in front of what stood in the output
unfoldable pub written : List ℕ
written = line 5 0x4d4d002a_09

-- ---- Useless readers

-- Refusing always, and a block that is made up.
pub j_is_done : Gives J fresh (Ok 4) written
unfolding request J line fresh written
j_is_done = gives J fresh (Ok 4) written refl

-- A needed length that is made up.
pub j_needs_four : Gives J (take 3 fresh) (Err (NoRoom 4)) (take 3 fresh)
unfolding request J line fresh
j_needs_four = gives J (take 3 fresh) (Err (NoRoom 4)) (take 3 fresh) refl

pub empty_is_refused : Gives [] fresh (Err (Refused NotJpeg)) fresh
unfolding request
empty_is_refused = gives [] fresh (Err (Refused NotJpeg)) fresh refl

-- One answer for all.
pub not_one_answer : (r : Extracted) (a b : List ℕ) → told r a ≡ jpeg_answer J fresh → told r b ≡ jpeg_answer [] fresh → ⊥
not_one_answer r a b e f =
    let z : (told (Err (Refused NotJpeg)) b).number ≡ (told (Ok 4) b).number
    = ap (λ (x : Extracted). (told x b).number) (sym (empty_is_refused r b f).0 ∙ (j_is_done r a e).0) in
    omega arith

-- Writing nothing and answering 0.
pub not_writing_nothing : (r : Extracted) → told r fresh ≡ jpeg_answer J fresh → ⊥
unfolding fresh written line
not_writing_nothing r e =
    let z : ◌≡◌ {A = ℕ} 9 0x4d = ap (λ (s : List ℕ). byte_at s 0) (j_is_done r fresh e).1 in
    omega arith

-- ---- Slips

-- Fill bytes not skipped.
pub fill_skipped : Gives (before 3 0xffffff) fresh (Ok 4) written
unfolding request J before line fresh written
fill_skipped = gives (before 3 0xffffff) fresh (Ok 4) written refl

-- A length that doesn't count itself.
pub length_counts_itself : Gives (before 4 0xffe0_0002) fresh (Ok 4) written
unfolding request J before line fresh written
length_counts_itself = gives (before 4 0xffe0_0002) fresh (Ok 4) written refl

-- 00 without a length.
pub zero_has_a_length : Gives (before 5 0xff00_0003_aa) fresh (Ok 4) written
unfolding request J before line fresh written
zero_has_a_length = gives (before 5 0xff00_0003_aa) fresh (Ok 4) written refl

-- DA's length read: here it would be 1.
pub scan_ends_search : Gives (before 4 0xffda_0001) fresh (Err (Refused NotFound)) fresh
unfolding request J before line fresh
scan_ends_search = gives (before 4 0xffda_0001) fresh (Err (Refused NotFound)) fresh refl

-- Going on after the first Exif segment, which here has no block.
pub first_ends_search : Gives (before 10 0xffe1_0008_457869660000) fresh (Ok 0) fresh
unfolding request J before line fresh
first_ends_search = gives (before 10 0xffe1_0008_457869660000) fresh (Ok 0) fresh refl
