-- The name stands at the front, or there is nothing to read; behind it stands what `read_decimal` says.
use Rattle.std.proofs.Common.{Some, None}
use Rattle.std.proofs.lemmas.Bool.Decides.{Decides-eqb}
use Rattle.std.proofs.lemmas.Slice.Eq.{strip_prefix_is}
use Rattle.sheet_line.specs.Numbers.{not_started, named_to, not_named}
use Rattle.sheet_line.proofs.read_named.Goals as goal

pub returns-in_err-behind : goal.returns-in_err-behind
returns-in_err-behind c =
    rw c.from_residual.ensures (not_started _ _ _ (strip_prefix_is Decides-eqb c.args.s.now c.args.name.now None c.in_err-behind.ensures.cases))

pub returns-in_err-number : goal.returns-in_err-number
returns-in_err-number c =
    let started = strip_prefix_is Decides-eqb c.args.s.now c.args.name.now (Some c.in_ok-behind.behind) c.in_ok-behind.ensures.cases in
    rw c.from_residual-in_err-number.ensures (not_named _ _ _ _ started c.in_err-number.ensures)

pub returns : goal.returns
returns c =
    let started = strip_prefix_is Decides-eqb c.args.s.now c.args.name.now (Some c.in_ok-behind.behind) c.in_ok-behind.ensures.cases in
    named_to _ _ _ _ started c.in_ok-number.ensures
