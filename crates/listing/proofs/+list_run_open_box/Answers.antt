-- A turn of the run meets a box that can't be read, which ends it, or a whole one (`turn_box`): then its line is written, what stands in it, and the
-- rest of the run is left.
use mathlib.Core.Path.{◌∙◌}
use native.Mathlib.Omega.{arith}
use lib.Seq.{length-take-le}
use Rattle.std.proofs.Common.{refl, Err, ◌≡◌, rules}
use Rattle.std.proofs.lemmas.Grind.{common_steps}
use Rattle.std.proofs.lemmas.Result.{err_from_is_err_and}
use Rattle.rules.specs.Laws.Listing.{run_done, children_ahead}
use Rattle.boxes.specs.declared.refusal.Refusal.{Refusal}
use Rattle.listing.specs.Lines.{left_finished, left_fault, lines_finished, lines_fault, room_line, room_box, went_on, went_wrong}
use Rattle.listing.specs.Turns.{turn_refused, turn_box, box_deepest, box_leaf, box_short, box_children}
use Rattle.listing.proofs.+list_run_open_box.Goals as goal

-- ---- A run of boxes

-- the fault is made of the refusal by a closure, so what it is has to be found (`q`)
pub list_run-returns-in_err-found : goal.list_run-returns-in_err-found
list_run-returns-in_err-found t c =
    let p = err_from_is_err_and c.from_residual.result c.from_residual.ensures.1 in
    let q : (e : Refusal) × (c.at.result ≡ Err e) × (c.in_err-found.field-0.0 ≡ record { written = c.loop-at.so_far; at = c.loop-at.at; why = e }) =
    grind (arith, common_steps) in
    rw (p.1, p.2, q.2)
    (left_fault c.loop-at.invariant.2 {f = record { written = c.loop-at.so_far; at = c.loop-at.at; why = q.0 }} refl (turn_refused c.args.levels c.args.s.now c.loop-at.at c.loop-at-test.true c.at.result c.at.ensures.value {e = q.0} q.1))

pub list_run-put_line-after_line-requires : goal.list_run-put_line-after_line-requires
list_run-put_line-after_line-requires t c =
    let turn = turn_box c.args.levels _ _ c.loop-at-test.true _ c.at.ensures.value c.at.ensures.place _ _ c.map_err.ensures.cases c.map_err.ensures.variant c.in_ok-found.was in
    room_line c.loop-at.invariant.2 _ _ turn c.requires.from_bound

pub list_run-open_box-requires : goal.list_run-open_box-requires
list_run-open_box-requires t c =
    let turn = turn_box c.args.levels _ _ c.loop-at-test.true _ c.at.ensures.value c.at.ensures.place _ _ c.map_err.ensures.cases c.map_err.ensures.variant c.in_ok-found.was in
    let room = room_box c.loop-at.invariant.2 _ _ turn c.requires.from_bound c.put_line-after_line.ensures in
    (grind (arith, common_steps), (c.requires.levels_le_deepest, room))

pub list_run-returns-in_err-so_far : goal.list_run-returns-in_err-so_far
list_run-returns-in_err-so_far t c =
    let turn = turn_box c.args.levels _ _ c.loop-at-test.true _ c.at.ensures.value c.at.ensures.place _ _ c.map_err.ensures.cases c.map_err.ensures.variant c.in_ok-found.was in
    let p = err_from_is_err_and c.from_residual-in_err-so_far.result c.from_residual-in_err-so_far.ensures.1 in
    rw (p.1, p.2)
    (went_wrong c.loop-at.invariant.2 _ _ turn c.requires.from_bound c.put_line-after_line.ensures c.open_box.ensures c.in_err-so_far.was)

pub list_run-loop-at-preserved : goal.list_run-loop-at-preserved
list_run-loop-at-preserved t c =
    let turn = turn_box c.args.levels _ _ c.loop-at-test.true _ c.at.ensures.value c.at.ensures.place _ _ c.map_err.ensures.cases c.map_err.ensures.variant c.in_ok-found.was in
    let kept = c.open_box.auto.out ∙ c.put_line-after_line.auto.out ∙ c.loop-at.invariant.1 in
    let left = went_on c.loop-at.invariant.2 _ _ turn c.requires.from_bound c.put_line-after_line.ensures c.open_box.ensures c.in_ok-so_far.was in
    (grind (arith, common_steps), kept, left)

pub list_run-returns : goal.list_run-returns
list_run-returns t c = search (left_finished, run_done)

-- ---- One box

pub open_box-list_run-requires : goal.open_box-list_run-requires
open_box-list_run-requires t c =
    let n = length-take-le c.args.found.child.to c.args.found.s.now c.args.found.inside in
    (grind (arith, children_ahead), (omega (arith, c.requires.levels_le_deepest), grind (arith, box_children)))

pub open_box-returns-then-levels-eq0 : goal.open_box-returns-then-levels-eq0
open_box-returns-then-levels-eq0 t c = search (rules, lines_finished, box_deepest)

pub open_box-returns-in-Err : goal.open_box-returns-in-Err
open_box-returns-in-Err t c = search (rules, lines_fault, box_short)

pub open_box-returns-in-Ok-None : goal.open_box-returns-in-Ok-None
open_box-returns-in-Ok-None t c = lines_finished _ _ _ (grind (arith, box_leaf))

pub open_box-returns-in-Ok-Some : goal.open_box-returns-in-Ok-Some
open_box-returns-in-Ok-Some t c = grind (arith, box_children)
