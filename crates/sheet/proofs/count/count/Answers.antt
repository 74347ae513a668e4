use Rattle.std.proofs.Common.{◌≡◌, ℕ, List, ◌≤◌, length, ◌+◌, false, eqb, refl, sym, arith, eqb-true, length-set}
use Rattle.std.proofs.lemmas.Bool.{eqb-false}
use Rattle.std.proofs.lemmas.Result.{err_from_is_err_and}
use Rattle.rules.specs.Laws.Numbers.{last_part}
use Rattle.sheet.specs.Counting.{counting_none, counting_done, counting_many, counting_other, counting_more, files_few, bytes_few, largest_few, answer_few}
use Rattle.sheet.proofs.count.count.Goals as goal

-- what the test says of what is left
some : (s : List ℕ) → false ≡ eqb (length s) 0 → 1 ≤ length s
some s e = omega (arith, eqb-false (length s) 0 (sym e))

pub loop-rest-init : goal.loop-rest-init
loop-rest-init c = (refl, counting_none _ _ c.requires)

pub overflow_add-line : goal.overflow_add-line
overflow_add-line c = omega (arith, files_few _ _ _ _ c.loop-rest.invariant.1)

pub returns-then-line-gt-MOST_LINES : goal.returns-then-line-gt-MOST_LINES
returns-then-line-gt-MOST_LINES c =
    counting_many _ _ _ _ c.loop-rest.invariant.1 (some _ c.loop-rest-test.ensures) c.if-line-gt-MOST_LINES.true

pub returns-in_err-entry : goal.returns-in_err-entry
returns-in_err-entry c =
    let p = err_from_is_err_and c.from_residual.result c.from_residual.ensures.1 in
    let other = rw c.in_err-entry.ensures.ok_part at c.read_line.ensures in
    let number = rw c.in_err-entry.ensures.ok_part at c.in_err-entry.ensures.value in
    let refused = counting_other _ _ _ _ c.loop-rest.invariant.1 (some _ c.loop-rest-test.ensures) c.if-line-gt-MOST_LINES.false other in
    let e : c.in_err-entry.field-0.0 ≡ c.loop-rest.files + 1 = cc in
    rw (p.1, p.2, e) refused

pub overflow_add-counts : goal.overflow_add-counts
overflow_add-counts c =
    let line = rw c.in_ok-entry.ensures.ok_part at c.read_line.ensures in
    omega (arith, answer_few _ _ _ _ c.loop-rest.invariant.1 c.in_ok-entry.entry.answer (omega (arith, line.allows.answer)))

pub overflow_add-bytes : goal.overflow_add-bytes
overflow_add-bytes c =
    let line = rw c.in_ok-entry.ensures.ok_part at c.read_line.ensures in
    omega (arith, bytes_few _ _ _ _ c.loop-rest.invariant.1, files_few _ _ _ _ c.loop-rest.invariant.1, line.allows.length)

pub loop-rest-preserved : goal.loop-rest-preserved
loop-rest-preserved c =
    let line = rw c.in_ok-entry.ensures.ok_part at c.read_line.ensures in
    let more = counting_more _ _ _ _ c.loop-rest.invariant.1 (some _ c.loop-rest-test.ensures) c.if-line-gt-MOST_LINES.false line in
    (simp length-set c.loop-rest.invariant.0, rw (c.max-largest.ensures, last_part _ _) more)

pub invariant_of-result : goal.invariant_of-result
invariant_of-result c =
    let counting = c.loop-rest.invariant.1 in
    record { few = files_few _ _ _ _ counting; small = bytes_few _ _ _ _ counting; each = largest_few _ _ _ _ counting }

pub returns : goal.returns
returns c = counting_done _ _ _ _ c.loop-rest.invariant.1 (eqb-true _ _ (sym c.loop-rest-test.ensures))
