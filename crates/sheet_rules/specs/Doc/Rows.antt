-- A line of names, each with its number, as `answer=0 length=4`: how it is written, and how its numbers are read again.
use Rattle.std.specs.Prelude.{ℕ, List, [], ◌∷◌, ◌++◌, length, drop, if◌then◌else◌}
use Prim.Native.String.{String}
use Rattle.rules.specs.Doc.Text.{ascii, is_digit}
use Rattle.rules.specs.Doc.Listing.{newline, named}
use Rattle.rules.specs.Demands.Digits.{value_from}

-- Numbers are plain decimals without leading zeros. Each line ends in one newline.
unfoldable pub row_text : List String → List ℕ → List ℕ
row_text [] ns = newline
row_text (name ∷ names) [] = newline
row_text (name ∷ names) (n ∷ ns) = named name n ++ row_text names ns

-- a letter in front of digits: it is one more of them, or there are none
unfoldable pub digit_then : ℕ → List ℕ → List ℕ
digit_then c ds = if is_digit c then c ∷ ds else []

-- the digits at the front
unfoldable pub digits_in : List ℕ → List ℕ
digits_in [] = []
digits_in (c ∷ s) = digit_then c (digits_in s)

-- The numbers behind so many letters of each name. What the names and digits are is not looked at here: a line is right if it is what its numbers
-- are written as.
unfoldable pub numbers_in : List String → List ℕ → List ℕ
numbers_in [] s = []
numbers_in (name ∷ names) s =
    let t = drop (length (ascii name)) s in
    let ds = digits_in t in
    value_from 10 0 ds ∷ numbers_in names (drop (length ds) t)
