-- Each number is read where the pattern has zeros, so there are digits.
use mathlib.Core.Path.{refl}
use lib.Dec.{lit≤}
use Rattle.capture_rules.specs.Doc.Time.{pattern}
use Rattle.capture_rules.specs.Laws.Shape.{zeros, time_digits}
use Rattle.dates.proofs.time_in.Goals as goal

pub decimal-requires : goal.decimal-requires
unfolding pattern zeros
decimal-requires c =
    let d = time_digits _ c.requires 0 4 refl (lit≤ tt) in
    (lit≤ tt, d.0, d.1)

pub two-requires : goal.two-requires
unfolding pattern zeros
two-requires c = time_digits _ c.requires 5 2 refl (lit≤ tt)

pub two-requires-2 : goal.two-requires-2
unfolding pattern zeros
two-requires-2 c = time_digits _ c.requires 8 2 refl (lit≤ tt)

pub two-requires-3 : goal.two-requires-3
unfolding pattern zeros
two-requires-3 c = time_digits _ c.requires 11 2 refl (lit≤ tt)

pub two-requires-4 : goal.two-requires-4
unfolding pattern zeros
two-requires-4 c = time_digits _ c.requires 14 2 refl (lit≤ tt)

pub two-requires-5 : goal.two-requires-5
unfolding pattern zeros
two-requires-5 c = time_digits _ c.requires 17 2 refl (lit≤ tt)
