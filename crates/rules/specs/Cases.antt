-- "File H and its neighbours": the cases marked P, one list with one claim, and the listing of H. The checker computes them.
-- No axiom and no premise is used.
use Rattle.std.specs.Prelude.{ℕ, zero, suc, ◌+◌, ◌/◌, ◌%◌, ◌^◌, Bool, true, ◌&&◌, List, [], ◌∷◌, ◌++◌, length, take, drop, T, eqb}
use Rattle.rules.specs.Doc.Lists.{same}
use Rattle.rules.specs.Doc.Answers.{Answer, answer}
use Rattle.rules.specs.Doc.Text.{ascii}
use Rattle.rules.specs.Doc.Listing.{newline, listing}
use Rattle.rules.specs.Unfold.{document}

-- the n bytes of a number, as a line of the document writes them
unfoldable pub line : ℕ → ℕ → List ℕ
line zero v = []
line (suc n) v = v / 256 ^ n % 256 ∷ line n v

unfoldable pub H : List ℕ
H = line 20 0x00000014_66747970_6d696631_00000000_6d696631
    ++ line 12 0x00000060_6d657461_00000000
    ++ line 14 0x00000023_69696e66_00000000_0001
    ++ line 21 0x00000015_696e6665_02000000_0001_0000_45786966_00
    ++ line 32 0x00000020_696c6f63_01000000_4400_0001_0001_0001_0000_0001_00000000_00000000
    ++ line 17 0x00000011_69646174_00000001_aa_4d4d002a

-- where the fields that the cases change stand in H
abbrev compatible_brand : ℕ
compatible_brand = 16

abbrev infe_version : ℕ
infe_version = 54

abbrev method : ℕ
method = 85

abbrev extent_offset : ℕ
extent_offset = 91

abbrev offset_bytes : ℕ
offset_bytes = 107

-- H with n bytes from a position on that say v
unfoldable pub changed : ℕ → ℕ → ℕ → List ℕ
changed at n v = take at H ++ line n v ++ drop (at + n) H

pub record Case : Type 0 where
  pub image : List ℕ
  pub output : List ℕ
  pub answer : Answer

-- an output buffer of bytes that no block here has, so that what is written shows
unfoldable pub fresh : List ℕ
fresh = line 5 0x0909090909

unfoldable pub refuses : List ℕ → ℕ → Case
refuses image n = record { image = image; output = fresh; answer = record { number = n; length = 0; output = fresh } }

unfoldable pub gives : List ℕ → List ℕ → Case
gives image b = record { image = image; output = fresh; answer = record { number = 0; length = length b; output = b ++ drop (length b) fresh } }

unfoldable pub cases : List Case
cases =
    -- empty image: 1; seven bytes: 2
    refuses [] 1
    ∷ refuses (take 7 H) 2
    -- `00000007 66726565`: 4; with size 8: 1
    ∷ refuses (line 8 0x00000007_66726565) 4
    ∷ refuses (line 8 0x00000008_66726565) 1
    -- H: 0, block `4d4d002a`; output of 3 bytes: 28, needed 4
    ∷ gives H (line 4 0x4d4d002a)
    ∷ record { image = H; output = take 3 fresh; answer = record { number = 28; length = 4; output = take 3 fresh } }
    -- first four `idat` bytes 5: 0, empty block; 6: 26
    ∷ gives (changed offset_bytes 4 5) []
    ∷ refuses (changed offset_bytes 4 6) 26
    -- extent offset 9: 25; offset 10: 20
    ∷ refuses (changed extent_offset 4 9) 25
    ∷ refuses (changed extent_offset 4 10) 20
    -- `infe` version 1: 9
    ∷ refuses (changed infe_version 1 1) 9
    -- method 2: 22; method 3: 23
    ∷ refuses (changed method 2 2) 22
    ∷ refuses (changed method 2 3) 23
    -- compatible brand `heic`, major brand still `mif1`: 7
    ∷ refuses (changed compatible_brand 4 0x68656963) 7
    -- H cut to 115 bytes: 2
    ∷ refuses (take 115 H) 2
    ∷ []

unfoldable pub same_answer : Answer → Answer → Bool
same_answer a b = eqb a.number b.number && eqb a.length b.length && same a.output b.output

unfoldable pub right : Case → Bool
right c = same_answer (answer c.image c.output) c.answer

unfoldable pub every : {A : Type 0} → (A → Bool) → List A → Bool
every p [] = true
every p (x ∷ xs) = p x && every p xs

pub all_cases : T (every right cases)
unfolding document every right same_answer same cases refuses gives fresh changed H line
all_cases = tt

-- Listing of H, whole.
unfoldable pub lines_of_h : List ℕ
lines_of_h =
    ascii "depth=0 at=0 type=66747970 header=8 body=12" ++ newline
    ++ ascii "depth=0 at=20 type=6d657461 header=8 body=88" ++ newline
    ++ ascii "depth=1 at=32 type=69696e66 header=8 body=27" ++ newline
    ++ ascii "depth=2 at=46 type=696e6665 header=8 body=13" ++ newline
    ++ ascii "depth=1 at=67 type=696c6f63 header=8 body=24" ++ newline
    ++ ascii "depth=1 at=99 type=69646174 header=8 body=9" ++ newline
    ++ ascii "end=116 answer=0" ++ newline

pub listing_of_h : T (same (listing H) lines_of_h)
unfolding document same lines_of_h H line
listing_of_h = tt
