-- The joined bytes are as many as the total that was checked. So 25, 26 and 28 can be asked in the definition's order before a byte is written, and
-- what `gather` then copies is what follows the offset (specs/Answers).
use native.Mathlib.Omega.{arith}
use Rattle.join.specs.Answers.{block_25, block_26, block_28, block_0}
use Rattle.join.proofs.block.extract_joined.Goals as goal

pub returns-then-total-lt4 : goal.returns-then-total-lt4
returns-then-total-lt4 c =
    block_25 _ _ c.args.location.now _ c.source_len-len.ensures _ c.total_size.ensures c.in_ok-total.was c.if-total-lt4.true

pub returns-then-total-offset : goal.returns-then-total-offset
returns-then-total-offset c =
    block_26 _ _ c.args.location.now _ c.source_len-len.ensures _ c.total_size.ensures c.in_ok-total.was c.first_number-offset.ensures (omega arith) (omega arith)

pub returns-then-out-need : goal.returns-then-out-need
returns-then-out-need c =
    block_28 _ _ c.args.location.now _ c.source_len-len.ensures _ c.total_size.ensures c.in_ok-total.was c.first_number-offset.ensures (omega arith) (omega arith)
    (omega arith)

pub returns : goal.returns
returns c =
    block_0 _ _ c.args.location.now _ c.source_len-len.ensures _ c.total_size.ensures c.in_ok-total.was c.first_number-offset.ensures (omega arith) (omega arith)
    (omega arith) c.gather.ensures
