-- `gather` lays the joined bytes over four zeros. Where there are fewer than four, the zeros that stay are what the definition has past the end.
use mathlib.Core.List.{List}
use mathlib.Core.Path.{ap, ◌∙◌}
use Prim.Native.Nat.{ℕ}
use Rattle.rules.specs.Doc.Bytes.{number_at}
use Rattle.rules.specs.Laws.Over.{first_four_is}
use Rattle.join.proofs.copy.first_number.Goals as goal

pub returns : goal.returns
returns c = c.loadu32.ensures ∙ ap (λ (l : List ℕ). number_at l 0 4) c.gather.ensures ∙ first_four_is _
