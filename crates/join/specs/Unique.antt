-- No two outcomes, answer and output together, meet the contract of `extract_item`.
use Rattle.std.specs.Prelude.{◌≡◌, List, ℕ}
use Rattle.std.proofs.Math.Option.{Option}
use Rattle.rules.specs.OverBytes.{item_block, answer_of}
use Rattle.rules.specs.Laws.Refusals.{early, item_block_numbered}
use Rattle.rules.specs.Laws.Room.{room_length}
use Rattle.output.specs.Told.{Extracted, told}
use Rattle.output.specs.Unique.{told_one}

pub item_one : (image : List ℕ) (store : Option (List ℕ)) (iloc : List ℕ) (wanted : ℕ) (out : List ℕ) (x y : Extracted) (after after' : List ℕ)
    → told x after ≡ answer_of out (item_block image store iloc wanted)
    → told y after' ≡ answer_of out (item_block image store iloc wanted) → (x ≡ y) × (after ≡ after')
unfolding answer_of
item_one image store iloc wanted out x y after after' e f =
    told_one (room_length out _ _ (early _ (item_block_numbered image store iloc wanted))) x y after after' e f
