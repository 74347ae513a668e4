-- Calls of every method that moves on, with what the Rust answers and what it has left: one list with one claim. The checker computes them.
use Rattle.std.specs.Prelude.{ℕ, Bool, ◌&&◌, List, [], ◌∷◌, length, drop, T}
use Rattle.std.proofs.Math.Option.{Option, none, some}
use Rattle.rules.specs.Doc.Outcomes.{Outcome, fine, refused}
use Rattle.rules.specs.Doc.Lists.{same}
use Rattle.rules.specs.Doc.Bytes.{field}
use Rattle.rules.specs.Doc.Headers.{ftyp}
use Rattle.rules.specs.Cases.{line, H, every}
use Rattle.rules.specs.Unfold.{document}
use Rattle.splitter.specs.Front.{as_sized, sized_front, full_box_at, array4_at, slice_front, child_box_at}
use Rattle.splitter.specs.Behind.{behind, behind_sized, read_of, header_read, end_of, past_box, behind_box}

pub data Method : Type 0 where
  child_box : Method
  size048 : ℕ → Method
  fullbox_header : Method
  uint16 : Method
  uint32 : Method
  uint64 : Method
  array4 : Method
  slice : ℕ → Method

-- An answer as numbers: 0 and the values, or the number of the refusal. Of bytes the values are how many there are, and they.
unfoldable pub told : {A : Type 0} → (A → List ℕ) → Outcome A → List ℕ
told values (fine a) = 0 ∷ values a
told values (refused n) = n ∷ []

unfoldable pub single : ℕ → List ℕ
single v = v ∷ []

unfoldable pub bytes : List ℕ → List ℕ
bytes l = length l ∷ l

unfoldable pub perhaps : Option ℕ → List ℕ
perhaps none = []
perhaps (some v) = v ∷ []

unfoldable pub says : Method → List ℕ → List ℕ
says child_box s = told (λ v. v.0 ∷ v.1) (child_box_at s 0)
says (size048 w) s = told perhaps (sized_front s w)
says fullbox_header s = told (λ v. v.0 ∷ v.1 ∷ []) (full_box_at s 0)
says uint16 s = told single (field s 0 2)
says uint32 s = told single (field s 0 4)
says uint64 s = told single (field s 0 8)
says array4 s = told bytes (array4_at s 0)
says (slice n) s = told bytes (slice_front s n)

unfoldable pub leaves : Method → List ℕ → List ℕ
leaves child_box s = behind_box s 0
leaves (size048 w) s = behind_sized s w
leaves fullbox_header s = behind s 4
leaves uint16 s = behind s 2
leaves uint32 s = behind s 4
leaves uint64 s = behind s 8
leaves array4 s = behind s 4
leaves (slice n) s = behind s n

pub record Case : Type 0 where
  pub method : Method
  pub bytes : List ℕ
  pub said : List ℕ
  pub left : List ℕ

unfoldable pub call : Method → List ℕ → List ℕ → List ℕ → Case
call method bytes said left = record { method = method; bytes = bytes; said = said; left = left }

-- a type for boxes, `free`
abbrev free : ℕ
free = 0x66726565

unfoldable pub cases : List Case
cases =
    -- H: type and body of its `ftyp`; its `meta` is left
    call child_box H (0 ∷ ftyp ∷ line 12 0x6d696631_00000000_6d696631) (drop 20 H)
    -- no bytes; fewer than a size has; a size but no whole type, and the size is gone
    ∷ call child_box [] (3 ∷ []) []
    ∷ call child_box (line 3 0x000000) (3 ∷ []) (line 3 0x000000)
    ∷ call child_box (line 7 0x00000014_667479) (3 ∷ []) (line 3 0x667479)
    -- a size of 7, which no box has: the header is gone
    ∷ call child_box (line 10 0x00000007_66726565_abcd) (4 ∷ []) (line 2 0xabcd)
    -- size 8: an empty body, and what follows it is left; size 0: the body runs to the end
    ∷ call child_box (line 10 0x00000008_66726565_abcd) (0 ∷ free ∷ []) (line 2 0xabcd)
    ∷ call child_box (line 10 0x00000000_66726565_abcd) (0 ∷ free ∷ line 2 0xabcd) []
    -- a body cut by one byte: the header is gone, and the rest of the body is left
    ∷ call child_box (line 10 0x0000000b_66726565_abcd) (3 ∷ []) (line 2 0xabcd)
    -- an eight-byte size that is cut: what there is of it is left
    ∷ call child_box (line 15 0x00000001_66726565_00000000_000000) (3 ∷ []) (line 7 0)
    -- eight-byte sizes of 15, which no box has, of 18 and of 19, which is cut by one byte
    ∷ call child_box (line 18 0x00000001_66726565_00000000_0000000f_abcd) (4 ∷ []) (line 2 0xabcd)
    ∷ call child_box (line 19 0x00000001_66726565_00000000_00000012_abcd_ef) (0 ∷ free ∷ line 2 0xabcd) (line 1 0xef)
    ∷ call child_box (line 18 0x00000001_66726565_00000000_00000013_abcd) (3 ∷ []) (line 2 0xabcd)
    -- numbers, and too few bytes for them: then nothing is gone
    ∷ call uint16 (line 3 0x0102_03) (0 ∷ 0x0102 ∷ []) (line 1 0x03)
    ∷ call uint16 (line 1 0x01) (3 ∷ []) (line 1 0x01)
    ∷ call uint32 (line 5 0x01020304_05) (0 ∷ 0x01020304 ∷ []) (line 1 0x05)
    ∷ call uint32 (line 3 0x010203) (3 ∷ []) (line 3 0x010203)
    ∷ call uint64 (line 9 0x0102030405060708_09) (0 ∷ 0x0102030405060708 ∷ []) (line 1 0x09)
    ∷ call uint64 (line 7 0x01020304050607) (3 ∷ []) (line 7 0x01020304050607)
    -- version and flags
    ∷ call fullbox_header (line 5 0x02_fffffe_05) (0 ∷ 2 ∷ 0xfffffe ∷ []) (line 1 0x05)
    ∷ call fullbox_header (line 3 0x02ffff) (3 ∷ []) (line 3 0x02ffff)
    -- four bytes
    ∷ call array4 (line 5 0x01020304_05) (0 ∷ 4 ∷ line 4 0x01020304) (line 1 0x05)
    ∷ call array4 (line 3 0x010203) (3 ∷ []) (line 3 0x010203)
    -- sizes 0, 4 and 8, too few bytes for them, and a size that gives no number
    ∷ call (size048 0) (line 2 0x0102) (0 ∷ 0 ∷ []) (line 2 0x0102)
    ∷ call (size048 0) [] (0 ∷ 0 ∷ []) []
    ∷ call (size048 4) (line 5 0x01020304_05) (0 ∷ 0x01020304 ∷ []) (line 1 0x05)
    ∷ call (size048 4) (line 3 0x010203) (3 ∷ []) (line 3 0x010203)
    ∷ call (size048 8) (line 9 0x0102030405060708_09) (0 ∷ 0x0102030405060708 ∷ []) (line 1 0x09)
    ∷ call (size048 8) (line 7 0x01020304050607) (3 ∷ []) (line 7 0x01020304050607)
    ∷ call (size048 3) (line 5 0x0102030405) (0 ∷ []) (line 5 0x0102030405)
    -- a slice: a part, all, one byte too many, none
    ∷ call (slice 2) (line 3 0x0102_03) (0 ∷ 2 ∷ line 2 0x0102) (line 1 0x03)
    ∷ call (slice 3) (line 3 0x010203) (0 ∷ 3 ∷ line 3 0x010203) []
    ∷ call (slice 4) (line 3 0x010203) (3 ∷ []) (line 3 0x010203)
    ∷ call (slice 0) (line 3 0x010203) (0 ∷ 0 ∷ []) (line 3 0x010203)
    ∷ []

unfoldable pub right : Case → Bool
right c = same (says c.method c.bytes) c.said && same (leaves c.method c.bytes) c.left

pub all_cases : T (every right cases)
unfolding document every right same cases call says leaves told single bytes perhaps H line as_sized sized_front full_box_at array4_at slice_front child_box_at
    behind behind_sized read_of header_read end_of past_box behind_box
all_cases = tt
