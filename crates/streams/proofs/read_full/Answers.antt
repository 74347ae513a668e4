use Rattle.std.proofs.Common.{◌-◌, length, rules, sym, subst}
use Rattle.std.specs.Io.KnownBytes.{Consumes}
use Rattle.streams.proofs.Filled.{filled, both}
use Rattle.streams.proofs.read_full.Goals as goal

pub loop-done-preserved : goal.loop-done-preserved
loop-done-preserved g c =
    let (same, inside, read) = c.loop-done.invariant in
    let n = c.in_ok-n.n in
    let more = filled c.loop-done.done (length c.loop-done.buf - c.loop-done.done) n c.loop-done.buf c.read.new.buf inside c.in_ok-n.ensures.bound.0 in
    (search rules, search rules, subst (Consumes _ _) (sym more) (both _ _ _ _ _ read c.in_ok-n.ensures.bytes.0))
