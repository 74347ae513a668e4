-- The numbers of Bytes are the big-endian ones.
use mathlib.Core.Path.{◌∙◌}
use Rattle.rules.specs.Laws.Endian.{number_big}
use Rattle.endian.proofs.load_big.Goals as goal

pub returns : goal.returns
returns c = (c.load.ensures.0 ∙ number_big _ _ _, c.load.ensures.1)
