-- The line stands at the front of its buffer, as much of it as there is room for, and that is what is written.
use mathlib.Core.List.{List}
use Prim.Native.Nat.{ℕ}
use Rattle.std.proofs.Common.{subst}
use Rattle.std.specs.Prelude.{OnOk}
use Rattle.std.specs.Io.KnownBytes.{Appends}
use Rattle.answer_line.specs.Parts.{copied_written}
use Rattle.answer_line.proofs.print_line.Goals as goal

pub returns-clause-written : goal.returns-clause-written
returns-clause-written g c =
    let before = g.W.Write.contents c.args.writer.now in
    let after = g.W.Write.contents c.write_all.new.writer in
    subst (λ (bytes : List ℕ). OnOk c.write_all.result (Appends before after bytes)) (copied_written c.of_answer-n.ensures) c.write_all.ensures
