-- The digits of the bytes up to `b` are put, and each turn puts those of one more.
use lib.ListN.{take}
use Rattle.output.specs.Copied.{Copied}
use Rattle.answer_line.specs.Line.{hexes}
use Rattle.answer_line.proofs.put_out.Given as goal

abbrev pub invariant-loop-b : goal.invariant-loop-b
invariant-loop-b l = Copied (hexes (take l.b-index l.out)) l.at l.initial.line l.end l.line
