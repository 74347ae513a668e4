-- "Numbers given back": the answer, with the output after it. (The table itself is the enum `Refusal` of crates/boxes, whose numbers are in its
-- specs/Told.)
use Rattle.std.specs.Prelude.{ℕ, List, [], ◌++◌, length, drop, leb, if◌then◌else◌}
use Rattle.rules.specs.Doc.Outcomes.{Outcome, fine, refused, once}
use Rattle.rules.specs.Doc.Block.{bytes_at, block}

-- number, length, and the output after the call
pub record Answer : Type 0 where
  pub number : ℕ
  pub length : ℕ
  pub output : List ℕ

-- the block, if there is room
unfoldable pub handed : ℕ → List ℕ → List ℕ
handed room ps = if leb (length ps) room then ps else []

-- 28 comes last. Only 0 and 28 carry a length; the block goes to the front of the output. On any refusal the output is untouched: with no room,
-- `bytes` is empty.
unfoldable pub answer_with : List ℕ → List ℕ → Outcome (List ℕ) → Answer
answer_with out bytes (refused n) = record { number = n; length = 0; output = out }
answer_with out bytes (fine ps) = record { number = if leb (length ps) (length out) then 0 else 28; length = length ps; output = bytes ++ drop (length bytes) out }

-- the answer for an image with that block, or that refusal of one, and an output buffer
unfoldable pub answer_by : Outcome (List ℕ) → List ℕ → List ℕ → Answer
answer_by b img out = answer_with out (bytes_at img (once (handed (length out)) b)) b

-- the answer for an image and an output buffer
abbrev pub answer : List ℕ → List ℕ → Answer
answer img out = answer_by (block img) img out
