-- Step 10: the block, as the positions of its bytes in the image.
use Rattle.std.specs.Prelude.{ℕ, ◌+◌, ◌-◌, List, [], map, length, take, drop, leb, if◌then◌else◌}
use Rattle.rules.specs.Doc.Outcomes.{Outcome, fine, ◌>>=◌, require}
use Rattle.rules.specs.Doc.Bytes.{byte_at, number_at}
use Rattle.rules.specs.Doc.Join.{joined}

-- the bytes at some positions
unfoldable pub bytes_at : List ℕ → List ℕ → List ℕ
bytes_at img ps = map (byte_at img) ps

-- the first four joined bytes, if there are four
unfoldable pub first_four : List ℕ → List ℕ
first_four ps = if leb 4 (length ps) then take 4 ps else []

-- Joined bytes under 4: 25. More than the total minus 4: 26. The block is what follows those four and that many more; it may be empty.
unfoldable pub block_after : ℕ → List ℕ → Outcome (List ℕ)
block_after offset ps = do
  _ ← require (leb 4 (length ps)) 25
  _ ← require (leb offset (length ps - 4)) 26
  fine (drop (4 + offset) ps)

-- The first four are an offset.
unfoldable pub block_in : List ℕ → List ℕ → Outcome (List ℕ)
block_in img ps = block_after (number_at (bytes_at img (first_four ps)) 0 4) ps

-- the block of an image
unfoldable pub block : List ℕ → Outcome (List ℕ)
block img = joined img >>= block_in img
