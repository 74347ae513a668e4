-- The last arm is 8, because the size is neither of the others.
use native.Mathlib.Omega.{arith}
use Rattle.rules.specs.Doc.Bytes.{number_at}
use borrow.Author.Rules.{rules}
use Rattle.locations.proofs.extent.read_again.Goals as goal

pub loadu64-requires : goal.loadu64-requires
loadu64-requires c = let e = c.requires.0 (search rules) (search rules) in omega arith

pub returns-in-0 : goal.returns-in-0
unfolding number_at
returns-in-0 c = rw c.in-0.is

pub returns-in_default : goal.returns-in_default
returns-in_default c = rw (c.requires.0 (search rules) (search rules)) c.loadu64.ensures
