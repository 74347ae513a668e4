-- The lines before `rest` are counted (`Counting`), and each turn counts one more, or says its number.
use mathlib.Core.Path.{◌≡◌}
use lib.ListN.{length}
use Rattle.sheet.specs.Counting.{Counting}
use Rattle.sheet.proofs.count.count.Given as goal

abbrev pub invariant-loop-rest : goal.invariant-loop-rest
invariant-loop-rest l = (length l.counts ≡ length l.initial.counts) × Counting l.lines l.counts (record { files = l.files; bytes = l.bytes; largest = l.largest }) l.rest

abbrev pub decreases-loop-rest : goal.decreases-loop-rest
decreases-loop-rest l = length l.rest
