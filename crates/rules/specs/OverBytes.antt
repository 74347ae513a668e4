-- Steps 2 to 10 over bytes, by the parts that each function of the code is lent, where document 01's definitions have positions in the image.
-- Laws/Gather and Laws/Lent show that the two say the same.
use Rattle.std.specs.Prelude.{ℕ, ◌+◌, List, [], ◌∷◌, length, ltb, if◌then◌else◌}
use Rattle.std.proofs.Math.Option.{Option, none, some}
use Rattle.rules.specs.Doc.Outcomes.{Outcome, fine, refused, ◌>>=◌, once}
use Rattle.rules.specs.Doc.Lists.{each}
use Rattle.rules.specs.Doc.Bytes.{number_at, part, Span, size_of, bytes_in}
use Rattle.rules.specs.Doc.Meta.{opened}
use Rattle.rules.specs.Doc.Children.{Kept, kept}
use Rattle.rules.specs.Doc.Iloc.{Extent, extents, Chosen, chosen}
use Rattle.rules.specs.Doc.Join.{Plan, plan, by_method, source_of, lies}
use Rattle.rules.specs.Doc.Block.{block_after}
use Rattle.rules.specs.Doc.Answers.{Answer, handed, answer_with}

-- ---- Extents that lie in some bytes

-- the bytes of a part; none of a refused one
unfoldable pub part_of : List ℕ → Outcome Span → List ℕ
part_of s (fine p) = part s p.from (size_of p)
part_of s (refused n) = []

-- the joined bytes, whether or not something is refused
unfoldable pub gathered : (Extent → Outcome Span) → List ℕ → List Extent → List ℕ
gathered place s xs = each (λ x. part_of s (place x)) xs

-- the total after one more part; above 65,535 is 24
unfoldable pub added : ℕ → Outcome Span → Outcome ℕ
added total (refused n) = refused n
added total (fine p) = if ltb 65535 (total + size_of p) then refused 24 else fine (total + size_of p)

-- the total of all extents, or what is refused first
unfoldable pub total_from : (Extent → Outcome Span) → ℕ → List Extent → Outcome ℕ
total_from place total [] = fine total
total_from place total (x ∷ xs) = added total (place x) >>= λ t. total_from place t xs

-- the block of joined bytes
unfoldable pub block_of : List ℕ → Outcome (List ℕ)
block_of bytes = block_after (number_at bytes 0 4) bytes

-- the block of extents that lie in s
unfoldable pub block_from : (Extent → Outcome Span) → List ℕ → List Extent → Outcome (List ℕ)
block_from place s xs = total_from place 0 xs >>= λ t. block_of (gathered place s xs)

-- ---- An item

-- steps 9 and 10 for a chosen entry of the table
unfoldable pub chosen_block : List ℕ → Option (List ℕ) → List ℕ → Chosen → Outcome (List ℕ)
chosen_block img store table c =
    by_method img store c.entry.method >>= λ s. block_from (lies c.entry.method (length s) c.entry.base) s (extents c.sizes table c.entry).list

-- steps 7 to 10
unfoldable pub item_block : List ℕ → Option (List ℕ) → List ℕ → ℕ → Outcome (List ℕ)
item_block img store table wanted = chosen table wanted >>= chosen_block img store table

-- ---- The image

-- steps 9 and 10 for a plan
abbrev pub plan_block : List ℕ → Plan → Outcome (List ℕ)
plan_block img p = do
  source ← source_of (length img) p.idat p.entry.method
  let s = bytes_in img source
  block_from (lies p.entry.method (length s) p.entry.base) s p.parts

-- the block of an image, step by step
unfoldable pub block_bytes : List ℕ → Outcome (List ℕ)
block_bytes img = do
  m ← opened img
  p ← plan m.body.from (bytes_in img m.body)
  plan_block img p

-- the bytes of the last `idat`, if there is one
unfoldable pub store_in : List ℕ → Option Span → Option (List ℕ)
store_in body none = none
store_in body (some d) = some (bytes_in body d)

-- steps 7 to 10, for what the children of `meta` leave
unfoldable pub kept_block : List ℕ → List ℕ → Kept → Outcome (List ℕ)
kept_block img body k = item_block img (store_in body k.idat) (bytes_in body k.iloc) k.wanted

-- steps 2 to 10, for the body of the first `meta`
unfoldable pub meta_block : List ℕ → List ℕ → Outcome (List ℕ)
meta_block img body = kept body >>= kept_block img body

-- ---- The answer

-- the answer for the bytes of a block
unfoldable pub answer_of : List ℕ → Outcome (List ℕ) → Answer
answer_of out b = answer_with out (once (handed (length out)) b) b

-- a refusal carries no length, and keeps the output
abbrev pub refusal : ℕ → List ℕ → Answer
refusal n out = record { number = n; length = 0; output = out }
