-- A block in either byte order and its neighbours, one list with one claim. The checker computes them.
-- No axiom and no premise is used.
use Rattle.std.specs.Prelude.{ℕ, ◌+◌, Bool, List, [], ◌∷◌, ◌++◌, take, drop, T}
use Rattle.rules.specs.Doc.Lists.{same}
use Rattle.rules.specs.Doc.Text.{ascii}
use Rattle.rules.specs.Doc.Listing.{newline}
use Rattle.rules.specs.Cases.{line, every}
use Rattle.capture_rules.specs.Doc.Capture.{capture}
use Rattle.capture_rules.specs.Doc.Line.{line_text}
use Rattle.capture_rules.specs.Unfold.{request}

-- one directory with the pointer, the Exif directory with date and bias, then the twenty bytes of the date and the eight of the bias
unfoldable pub block_mm : List ℕ
block_mm =
    line 8 0x4d4d_002a_00000008
    ++ line 18 0x0001_8769_0004_00000001_0000001a_00000000
    ++ line 30 0x0002_9003_0002_00000014_00000038_9204_000a_00000001_0000004c_00000000
    ++ (ascii "2023:06:14 09:26:53" ++ line 9 0x00_ffffffff_00000002)

-- the same in the other byte order, with the bias as 2 over -4
unfoldable pub block_ii : List ℕ
block_ii =
    line 8 0x4949_2a00_08000000
    ++ line 18 0x0100_6987_0400_01000000_1a000000_00000000
    ++ line 30 0x0200_0390_0200_14000000_38000000_0492_0a00_01000000_4c000000_00000000
    ++ (ascii "2023:06:14 09:26:53" ++ line 9 0x00_02000000_fcffffff)

-- a block with n bytes from a position on that say v
unfoldable pub changed : List ℕ → ℕ → ℕ → ℕ → List ℕ
changed b at n v = take at b ++ line n v ++ drop (at + n) b

pub record Case : Type 0 where
  pub block : List ℕ
  pub text : List ℕ

unfoldable pub says : List ℕ → List ℕ → Case
says block text = record { block = block; text = text }

-- where the fields that the cases change stand
abbrev forty_two : ℕ
forty_two = 2

abbrev pointer : ℕ
pointer = 10

abbrev date_entry : ℕ
date_entry = 28

abbrev bias_entry : ℕ
bias_entry = 40

abbrev month : ℕ
month = 61

abbrev denominator : ℕ
denominator = 80

unfoldable pub cases : List Case
cases =
    says block_mm (ascii "answer=0 date=2023:06:14 09:26:53 bias=-1/2")
    ∷ says block_ii (ascii "answer=0 date=2023:06:14 09:26:53 bias=-1/2")
    -- seven bytes, and 43: 34
    ∷ says (take 7 block_mm) (ascii "answer=34")
    ∷ says (changed block_mm forty_two 2 43) (ascii "answer=34")
    -- no count, the Exif directory at the end, a value that ends one byte late: 35
    ∷ says (take 8 block_mm) (ascii "answer=35")
    ∷ says (changed block_mm (pointer + 8) 4 84) (ascii "answer=35")
    ∷ says (take 83 block_mm) (ascii "answer=35")
    -- another tag, a SHORT, two values: 36
    ∷ says (changed block_mm pointer 2 0x8768) (ascii "answer=36")
    ∷ says (changed block_mm (pointer + 2) 2 3) (ascii "answer=36")
    ∷ says (changed block_mm (pointer + 4) 4 2) (ascii "answer=36")
    -- another tag, 19 values, month 13: 37
    ∷ says (changed block_mm date_entry 2 0x9004) (ascii "answer=37")
    ∷ says (changed block_mm (date_entry + 4) 4 19) (ascii "answer=37")
    ∷ says (changed block_mm month 2 0x3133) (ascii "answer=37")
    -- RATIONAL: 38; a denominator of zero: 39; another tag: no bias
    ∷ says (changed block_mm (bias_entry + 2) 2 5) (ascii "answer=38")
    ∷ says (changed block_mm denominator 4 0) (ascii "answer=39")
    ∷ says (changed block_mm bias_entry 2 0x9201) (ascii "answer=0 date=2023:06:14 09:26:53 bias=none")
    -- both are wrong: the date comes first
    ∷ says (changed (changed block_mm denominator 4 0) month 2 0x3133) (ascii "answer=37")
    ∷ []

unfoldable pub right : Case → Bool
right c = same (line_text (capture c.block)) (c.text ++ newline)

pub all_cases : T (every right cases)
unfolding request every right same cases says changed block_mm block_ii line
all_cases = tt
