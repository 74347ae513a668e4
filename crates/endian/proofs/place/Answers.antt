-- Each arm is one clause of the definition.
use mathlib.Core.Path.{refl}
use native.Mathlib.Omega.{arith}
use Rattle.rules.specs.Doc.Endian.{place_in}
use Rattle.endian.proofs.place.Goals as goal

pub returns-in-Big : goal.returns-in-Big
unfolding place_in
returns-in-Big c = rw c.in-Big.is (refl, omega arith)

pub returns-in-Little : goal.returns-in-Little
unfolding place_in
returns-in-Little c = rw c.in-Little.is (omega arith, omega arith)
