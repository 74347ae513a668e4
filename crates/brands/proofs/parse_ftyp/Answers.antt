-- The chain goes through the brands in their order, and says whether one is known.
use native.Mathlib.Omega.{arith}
use Rattle.std.proofs.Common.{rules}
use borrow.Author.Tests.{tests}
use Rattle.std.proofs.lemmas.Iterator.Search.{any_from_yields_List}
use Rattle.rules.specs.Doc.Ftyp.{known}
use Rattle.brands.specs.Brands.{brands_come, ftyp_small, ftyp_any}
use Rattle.brands.proofs.parse_ftyp.Goals as goal

pub returns-in_default : goal.returns-in_default
returns-in_default c = ftyp_small _ (omega (arith, c.in_default.ensures.lookup))

pub returns-then-any : goal.returns-then-any
returns-then-any c =
    let look = c.in-Some.ensures.lookup.0 in
    let some = any_from_yields_List known _ _ c.any.result c.any.ensures.ran (brands_come c.chunks_exact.result c.chunks_exact.ensures.size) (λ x b q k. search (rules, tests)) in
    rw c.if-any.true at (ftyp_any _ look.0 look.2 c.chunks_exact.ensures.rest some)

pub returns-else-any : goal.returns-else-any
returns-else-any c =
    let look = c.in-Some.ensures.lookup.0 in
    let some = any_from_yields_List known _ _ c.any.result c.any.ensures.ran (brands_come c.chunks_exact.result c.chunks_exact.ensures.size) (λ x b q k. search (rules, tests)) in
    rw c.if-any.false at (ftyp_any _ look.0 look.2 c.chunks_exact.ensures.rest some)
