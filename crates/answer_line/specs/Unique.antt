-- No two buffers meet the contract of `print_line`, which leaves the answer open: what standard output takes is not known to a contract.
use Rattle.std.specs.Prelude.{◌≡◌, ℕ, Bool, List}
use Rattle.std.proofs.Common.{sym, ◌∙◌}
use Rattle.rules.specs.Doc.Listing.{printed}
use Rattle.rules.specs.Doc.Answers.{Answer}
use Rattle.answer_line.specs.Line.{answer_text}

pub line_one : (a : Answer) (word : List ℕ) (holds : Bool) (before : List ℕ) {after after' : List ℕ}
    → after ≡ printed (answer_text a word holds) before → after' ≡ printed (answer_text a word holds) before → after ≡ after'
line_one a word holds before e f = e ∙ sym f
