-- The rest of the part is all from `skip` on, and as much of it as there is room for is laid over the output (`copied_room`).
use mathlib.Core.Logic.{⊎_elim}
use mathlib.Core.List.{[]}
use mathlib.Core.Path.{◌≡◌, refl}
use Prim.Native.Nat.{◌+◌, ◌-◌}
use lib.ListN.{length, drop, drop_of_length-le}
use native.Mathlib.Omega.{arith}
use Rattle.std.proofs.lemmas.Slice.{between_to_end}
use Rattle.output.specs.Copied.{copied_none, copied_full, copied_room}
use Rattle.output.proofs.put.Goals as goal

pub returns-then-part-skip : goal.returns-then-part-skip
returns-then-part-skip c =
    let a = c.args in
    ⊎_elim
    (λ h. let none : drop a.skip a.part.now ≡ [] = drop_of_length-le a.part.now h in rw none (copied_none a.at a.out.now))
    (λ h. copied_full (drop a.skip a.part.now) a.at a.out.now h.1)
    c.then-part-skip.either

pub returns : goal.returns
returns c =
    let a = c.args in
    let rest = between_to_end a.part.now a.skip (length a.part.now) (omega arith) in
    let n : a.at + c.min-n.result - a.at ≡ c.min-n.result = omega arith in
    copied_room _ _ _ _ _ (rw rest at c.min-n.ensures) (omega arith) (rw (n, c.copy.ensures, rest) refl)
