use Rattle.std.proofs.Common.{rules, arith}
use Rattle.isobmff.specs.Top.{opened_start, lead_next, lead_done, on_ahead}
use Rattle.isobmff.proofs.top.parse.Goals as goal

pub loop-at-init : goal.loop-at-init
loop-at-init c = opened_start _

pub returns-in_err-body : goal.returns-in_err-body
returns-in_err-body c =
    let o = rw c.in_err-body.was at (lead_next _ _ _ c.loop-at.invariant c.loop-at-test.true c.file_level_box.ensures) in
    search rules

pub returns-in-Meta : goal.returns-in-Meta
returns-in-Meta c =
    rw c.in-Meta.is at (rw c.in_ok-body.was at (lead_next _ _ _ c.loop-at.invariant c.loop-at-test.true c.file_level_box.ensures))

pub loop-at-smaller : goal.loop-at-smaller
loop-at-smaller c =
    omega (arith, on_ahead _ _ _ (rw c.in-On.is at (rw c.in_ok-body.was at c.file_level_box.ensures)))

pub loop-at-preserved : goal.loop-at-preserved
loop-at-preserved c =
    rw c.in-On.is at (rw c.in_ok-body.was at (lead_next _ _ _ c.loop-at.invariant c.loop-at-test.true c.file_level_box.ensures))

pub returns : goal.returns
returns c = lead_done _ _ _ c.loop-at.invariant c.loop-at-test.false
