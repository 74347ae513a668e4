use mathlib.Core.Path.{◌≡◌, refl}
use native.Mathlib.Omega.{arith}
use native.Mathlib.Numerals.{add-one}
use Rattle.rules.specs.Doc.Endian.{number_of, number_in}
use Rattle.rules.specs.Laws.Endian.{digits_room, number_in_below}
use Rattle.endian.specs.Told.{endian_of}
use Rattle.endian.proofs.load.Goals as goal

pub loop-i-init : goal.loop-i-init
unfolding number_of
loop-i-init c = (omega arith, refl)

pub overflow_mul-num : goal.overflow_mul-num
overflow_mul-num c =
    let a = c.args in
    omega (arith, digits_room (endian_of a.order) a.buf.now a.from a.n c.type_inv.buf c.loop-i.i (omega arith))

pub overflow_add-num : goal.overflow_add-num
overflow_add-num c =
    let a = c.args in
    omega (arith, digits_room (endian_of a.order) a.buf.now a.from a.n c.type_inv.buf c.loop-i.i (omega arith))

pub loop-i-preserved : goal.loop-i-preserved
unfolding number_of
loop-i-preserved c = (omega arith, rw (add-one, ← c.place.ensures.0) (omega arith))

pub returns : goal.returns
unfolding number_in
returns c =
    let i = c.loop-i in
    let a = c.args in
    let e : i.i ≡ a.n = omega arith in
    rw (i.invariant.1, e) (refl, number_in_below (endian_of a.order) a.buf.now a.from a.n c.type_inv.buf)
