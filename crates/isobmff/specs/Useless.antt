-- Document 01's useless versions, the four slips that it names, and two more faults are shut out: what a call that meets the contract of
-- `get_exif_attr` gives for the images that show them.
use Rattle.std.specs.Prelude.{◌≡◌, refl, ℕ, ◌+◌, List, [], ◌++◌, length, take, Ok, Err}
use Rattle.std.proofs.Common.{sym, ap, ◌∙◌, arith}
use Rattle.rules.specs.Doc.Bytes.{byte_at}
use Rattle.rules.specs.Doc.Answers.{answer}
use Rattle.rules.specs.Unfold.{document}
use Rattle.rules.specs.Cases.{line, H, fresh}
use Rattle.boxes.specs.declared.refusal.Refusal.TheVariants.{NotFound, NoMatchingEntry}
use Rattle.output.specs.Told.{Extracted, told}
use Rattle.output.specs.declared.NoBlock.TheVariants.{NoRoom, Refused}
use Rattle.isobmff.specs.Unique.{attr_one}

-- every call with this image and this output answers x, and leaves `after` in the output
abbrev pub Gives : List ℕ → List ℕ → Extracted → List ℕ → Type 0
Gives img out x after = (r : Extracted) (a : List ℕ) → told r a ≡ answer img out → (r ≡ x) × (a ≡ after)

gives : (img out : List ℕ) (x : Extracted) (after : List ℕ) → told x after ≡ answer img out → Gives img out x after
gives img out x after e r a f = attr_one img out r x a after f e

-- H's block in front of what stood in the output
unfoldable pub written : List ℕ
written = line 5 0x4d4d002a_09

-- ---- Useless versions

-- Refusing always, and a block that is made up. H's extent has length 0, so this shuts out a fault too that document 01 doesn't name: length zero
-- taken for no bytes.
pub h_is_done : Gives H fresh (Ok 4) written
unfolding document H line fresh written
h_is_done = gives H fresh (Ok 4) written refl

-- A needed length that is made up.
pub h_needs_four : Gives H (take 3 fresh) (Err (NoRoom 4)) (take 3 fresh)
unfolding document H line fresh
h_needs_four = gives H (take 3 fresh) (Err (NoRoom 4)) (take 3 fresh) refl

pub empty_is_refused : Gives [] fresh (Err (Refused NotFound)) fresh
unfolding document
empty_is_refused = gives [] fresh (Err (Refused NotFound)) fresh refl

-- One answer for all.
pub not_one_answer : (r : Extracted) (a b : List ℕ) → told r a ≡ answer H fresh → told r b ≡ answer [] fresh → ⊥
not_one_answer r a b e f =
    let z : (told (Err (Refused NotFound)) b).number ≡ (told (Ok 4) b).number
    = ap (λ (x : Extracted). (told x b).number) (sym (empty_is_refused r b f).0 ∙ (h_is_done r a e).0) in
    omega arith

-- Writing nothing and answering 0.
pub not_writing_nothing : (r : Extracted) → told r fresh ≡ answer H fresh → ⊥
unfolding fresh written line
not_writing_nothing r e =
    let z : ◌≡◌ {A = ℕ} 9 0x4d = ap (λ (s : List ℕ). byte_at s 0) (h_is_done r fresh e).1 in
    omega arith

-- H with other children of `meta`; and its own `iinf` and `idat`
unfoldable pub with_children : List ℕ → List ℕ
with_children children = line 20 0x00000014_66747970_6d696631_00000000_6d696631
    ++ line 4 (12 + length children)
    ++ line 8 0x6d657461_00000000
    ++ children

abbrev pub infos : List ℕ
infos = line 14 0x00000023_69696e66_00000000_0001 ++ line 21 0x00000015_696e6665_02000000_0001_0000_45786966_00

abbrev pub store : List ℕ
store = line 17 0x00000011_69646174_00000001_aa_4d4d002a

-- H with another `iloc`
unfoldable pub with_table : List ℕ → List ℕ
with_table table = with_children (infos ++ table ++ store)

-- two extents, of two bytes and of seven
unfoldable pub two_extents : List ℕ
two_extents = with_table (line 40 0x00000028_696c6f63_01000000_4400_0001_0001_0001_0000_0002_00000000_00000002_00000002_00000007)

-- Copying the first extent and only pretending for later ones; and one of the slips, reading the four bytes from the first extent when it has two.
pub both_extents_count : Gives two_extents fresh (Ok 4) written
unfolding document two_extents with_table with_children line fresh written
both_extents_count = gives two_extents fresh (Ok 4) written refl

-- ---- The other three slips

-- an offset size of 3, and one entry, of another item
unfoldable pub other_sizes : List ℕ
other_sizes = with_table (line 31 0x0000001f_696c6f63_01000000_3400_0001_0002_0001_0000_0001_00000000000000)

-- Judging sizes of other items.
pub other_sizes_unjudged : Gives other_sizes fresh (Err (Refused NoMatchingEntry)) fresh
unfolding document other_sizes with_table with_children line fresh
other_sizes_unjudged = gives other_sizes fresh (Err (Refused NoMatchingEntry)) fresh refl

-- an `mdat` of 20 bytes of which 10 are there
unfoldable pub cut_mdat : List ℕ
cut_mdat = line 10 0x00000014_6d646174_0000

-- A cut `mdat` before any `meta` refused as 2.
pub cut_mdat_skipped : Gives cut_mdat fresh (Err (Refused NotFound)) fresh
unfolding document cut_mdat line fresh
cut_mdat_skipped = gives cut_mdat fresh (Err (Refused NotFound)) fresh refl

-- H with `iloc` before `iinf`
unfoldable pub iloc_first : List ℕ
iloc_first = with_children (line 32 0x00000020_696c6f63_01000000_4400_0001_0001_0001_0000_0001_00000000_00000000 ++ infos ++ store)

-- `iloc` read when met, before the wanted id is known.
pub iloc_read_later : Gives iloc_first fresh (Ok 4) written
unfolding document iloc_first with_children line fresh written
iloc_read_later = gives iloc_first fresh (Ok 4) written refl

-- ---- A fault that document 01 doesn't name

-- two entries of the wanted id, the first with an extent of one byte
unfoldable pub two_entries : List ℕ
two_entries = with_table (line 48 0x00000030_696c6f63_01000000_4400_0002_0001_0001_0000_0001_00000000_00000001_0001_0001_0000_0001_00000000_00000000)

-- Stopping at the first entry of the wanted id.
pub last_entry_wins : Gives two_entries fresh (Ok 4) written
unfolding document two_entries with_table with_children line fresh written
last_entry_wins = gives two_entries fresh (Ok 4) written refl
