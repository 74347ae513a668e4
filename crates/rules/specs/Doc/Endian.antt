-- Numbers in either byte order. The fields of boxes are all big-endian (Bytes); the block inside says which order it has (crates/capture_rules).
use Rattle.std.specs.Prelude.{ℕ, zero, suc, ◌+◌, ◌-◌, ◌*◌, List}
use Rattle.rules.specs.Doc.Bytes.{byte_at}

-- the first byte is the highest, or the last one
pub data Endian : Type 0 where
  big : Endian
  little : Endian

-- Of the n bytes from a position, where the i-th highest stands; the highest is number 0.
unfoldable pub place_in : Endian → ℕ → ℕ → ℕ → ℕ
place_in big at n i = at + i
place_in little at n i = at + (n - suc i)

-- the number that n digits in base 256 make, the highest first
unfoldable pub number_of : (ℕ → ℕ) → ℕ → ℕ
number_of digit zero = 0
number_of digit (suc n) = number_of digit n * 256 + digit n

-- the number in the n bytes from a position
unfoldable pub number_in : Endian → List ℕ → ℕ → ℕ → ℕ
number_in e s at n = number_of (λ i. byte_at s (place_in e at n i)) n
