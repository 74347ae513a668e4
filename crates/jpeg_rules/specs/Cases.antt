-- A small JPEG file J and its neighbours, one list with one claim. The checker computes them.
-- No axiom and no premise is used.
use Rattle.std.specs.Prelude.{ℕ, Bool, List, [], ◌∷◌, ◌++◌, take, drop, T}
use Rattle.rules.specs.Doc.Lists.{same}
use Rattle.rules.specs.Cases.{line, Case, fresh, refuses, gives, H, same_answer, every}
use Rattle.jpeg_rules.specs.Doc.Block.{jpeg_answer}
use Rattle.jpeg_rules.specs.Doc.Either.{either_answer}
use Rattle.jpeg_rules.specs.Unfold.{request}

-- one Exif segment with a block of four bytes, and D9
unfoldable pub J : List ℕ
J = line 18 0xffd8_ffe1_000c_457869660000_4d4d002a_ffd9

-- J with n bytes that say v before its segment
unfoldable pub before : ℕ → ℕ → List ℕ
before n v = take 2 J ++ line n v ++ drop 2 J

unfoldable pub block : List ℕ
block = line 4 0x4d4d002a

unfoldable pub cases : List Case
cases =
    -- not starting FF D8, shorter files too: 31
    refuses [] 31
    ∷ refuses (take 1 J) 31
    ∷ refuses (drop 2 J) 31
    ∷ refuses H 31
    -- J: 0, block `4d4d002a`; an output of 3 bytes: 28, needed 4
    ∷ gives J block
    ∷ record { image = J; output = take 3 fresh; answer = record { number = 28; length = 4; output = take 3 fresh } }
    -- no marker, or only its FF; no length, or half of it; no body, or a part of it: 2
    ∷ refuses (take 2 J) 2
    ∷ refuses (take 3 J) 2
    ∷ refuses (take 4 J) 2
    ∷ refuses (take 5 J) 2
    ∷ refuses (take 6 J) 2
    ∷ refuses (take 15 J) 2
    -- the search ends with the Exif segment: what follows may be cut
    ∷ gives (take 16 J) block
    -- fill
    ∷ gives (before 1 0xff) block
    ∷ gives (before 3 0xffffff) block
    ∷ refuses (line 5 0xffd8_ffffff) 2
    -- no FF where a marker must be: 32
    ∷ refuses (before 1 0x00) 32
    -- length under 2: 33
    ∷ refuses (before 4 0xffe0_0001) 33
    ∷ refuses (before 4 0xffe1_0000) 33
    -- D9 or DA: 1, before any length of theirs is read
    ∷ refuses (before 2 0xffd9) 1
    ∷ refuses (line 4 0xffd8_ffda) 1
    -- without a length: 01 and D0 to D7
    ∷ gives (before 6 0xff01_ffd0_ffd7) block
    -- with a length: the others, 00 and D8 too
    ∷ gives (before 5 0xff00_0003_aa) block
    ∷ gives (before 4 0xffd8_0002) block
    ∷ refuses (before 2 0xff00) 2
    -- an E1 segment of another kind, or too short for the six bytes, is passed
    ∷ gives (before 6 0xffe1_0004_6874) block
    ∷ gives (before 9 0xffe1_0007_4578696600) block
    -- the six bytes in a segment that isn't E1
    ∷ gives (before 10 0xffe0_0008_457869660000) block
    -- the first Exif segment ends the search; its block may be empty
    ∷ gives (before 10 0xffe1_0008_457869660000) []
    ∷ gives (before 11 0xffe1_0009_457869660000_aa) (line 1 0xaa)
    ∷ []

unfoldable pub right : Case → Bool
right c = same_answer (jpeg_answer c.image c.output) c.answer

pub all_cases : T (every right cases)
unfolding request every right same_answer same cases refuses gives fresh J H before block line
all_cases = tt

-- The reader above both: H and J each get their own, and what is neither gets what the HEIF reader says.
unfoldable pub either_cases : List Case
either_cases =
    gives J block
    ∷ gives H block
    ∷ refuses [] 1
    ∷ refuses (take 1 J) 2
    ∷ refuses (line 8 0x00000007_66726565) 4
    ∷ refuses (take 6 J) 2
    ∷ refuses (before 1 0x00) 32
    ∷ []

unfoldable pub either_right : Case → Bool
either_right c = same_answer (either_answer c.image c.output) c.answer

pub all_either_cases : T (every either_right either_cases)
unfolding request every either_right same_answer same either_cases refuses gives fresh J H before block line
all_either_cases = tt
