-- What a line of text is made of: letters, and numbers as digits.
use Rattle.std.specs.Prelude.{ℕ, zero, suc, ◌+◌, ◌/◌, ◌%◌, Bool, ◌&&◌, List, [], ◌∷◌, ◌++◌, leb, ltb, if◌then◌else◌}
use Prim.Native.Char.{code}
use Prim.Native.String.{String}
use Prim.Native.String as string

-- the bytes of letters
abbrev pub ascii : String → List ℕ
ascii string.[] = []
ascii (string.◌∷◌ c s) = code c ∷ ascii s

-- `0` to `9`, then `a` to `f`
unfoldable pub digit : ℕ → ℕ
digit d = if ltb d 10 then 48 + d else 87 + d

-- whether a letter is one of `0` to `9`
abbrev pub is_digit : ℕ → Bool
is_digit c = leb 48 c && leb c 57

-- k digits in base 16, the highest first
unfoldable pub hex : ℕ → ℕ → List ℕ
hex zero n = []
hex (suc k) n = hex k (n / 16) ++ (digit (n % 16) ∷ [])

-- a decimal number of at most k + 1 digits
unfoldable pub decimal_to : ℕ → ℕ → List ℕ
decimal_to zero n = digit (n % 10) ∷ []
decimal_to (suc k) n = if ltb n 10 then digit n ∷ [] else (decimal_to k (n / 10) ++ (digit (n % 10) ∷ []))

-- a plain decimal number without leading zeros; it has no more than n + 1 digits
unfoldable pub decimal : ℕ → List ℕ
decimal n = decimal_to n n
