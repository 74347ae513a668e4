use Rattle.std.proofs.Common.{◌≡◌, ◌≤◌, ◌⊎◌, arith}
use Rattle.sheet_line.specs.Numbers.{none_taken, taken_zero, taken_more, taken_over}
use Rattle.sheet_line.proofs.read_decimal.Goals as goal

pub returns-then-n-eq0 : goal.returns-then-n-eq0
returns-then-n-eq0 c = taken_zero _ _ _ _ c.loop-digit.invariant.0 c.in-Some.ensures _ (λ z. omega arith) c.if-n-eq0.true

pub returns-then-most-n : goal.returns-then-most-n
returns-then-most-n c =
    let l = c.loop-digit in
    -- no digit was read yet, or the first was no zero
    let begun : (l.end ≡ 0) ⊎ (1 ≤ l.n) = grind arith in
    taken_over _ _ _ _ l.invariant.0 c.in-Some.ensures begun _ c.if-most-n.true

pub loop-digit-preserved : goal.loop-digit-preserved
loop-digit-preserved c =
    let l = c.loop-digit in
    let begun : (l.end ≡ 0) ⊎ (1 ≤ l.n) = grind arith in
    (taken_more _ _ _ _ l.invariant.0 c.in-Some.ensures begun, c.if-most-n.false)

pub returns-then-end-eq0 : goal.returns-then-end-eq0
returns-then-end-eq0 c = none_taken _ _ (rw c.if-end-eq0.true at c.in_default.ensures)
