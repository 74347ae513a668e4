-- `num` is the number that the `i` highest digits make. It is below 256^i, so up to eight bytes never overflow. Where a digit stands is left to
-- `place`.
use mathlib.Core.Path.{◌≡◌}
use Prim.Native.Nat.{◌≤◌}
use Rattle.rules.specs.Doc.Endian.{number_of}
use Rattle.rules.specs.Laws.Endian.{digits_in}
use Rattle.endian.specs.Told.{endian_of}
use Rattle.endian.proofs.load.Given as goal

abbrev pub invariant-loop-i : goal.invariant-loop-i
invariant-loop-i l = (l.i ≤ l.n) × (l.num ≡ number_of (digits_in (endian_of l.order) l.buf l.from l.n) l.i)
