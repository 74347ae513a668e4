-- A box that is skipped is below 2^63 bytes, so its end fits 64 bits.
use native.Mathlib.Omega.{arith}
use Rattle.rules.specs.Laws.Headers.{file_begins, file_small}
use Rattle.isobmff.proofs.top.file_level_box.Goals as goal

pub overflow_add-result : goal.overflow_add-result
overflow_add-result c =
    let e = rw c.in_ok-found.was at c.file_box.ensures in
    omega (arith, (file_begins _ _ e).inner, file_small _ _ e (λ e. omega arith) (λ e. omega arith))
