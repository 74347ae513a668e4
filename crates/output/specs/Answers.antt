-- The answer for a block that is there: with room for it, and without.
use Rattle.std.specs.Prelude.{◌≡◌, List, ℕ, ◌≤◌, ◌<◌, length, Ok, Err}
use Rattle.std.proofs.lemmas.List.Edits.{sets}
use borrow.Author.Tests.{le-leb, lt-leb}
use Rattle.rules.specs.Doc.Outcomes.{fine, once}
use Rattle.rules.specs.Doc.Answers.{handed, answer_with}
use Rattle.rules.specs.OverBytes.{answer_of}
use Rattle.rules.specs.Laws.Over.{over_room}
use Rattle.output.specs.Told.{told}
use Rattle.output.specs.declared.NoBlock.TheVariants.{NoRoom}

module _ (block out : List ℕ) where
  pub answer_28 : length out < length block → told (Err (NoRoom (length block))) out ≡ answer_of out (fine block)
  unfolding answer_of answer_with once handed
  answer_28 h = rw (lt-leb (length block) (length out) h)

  pub answer_0 : length block ≤ length out → {after : List ℕ} → after ≡ sets out 0 block → told (Ok (length block)) after ≡ answer_of out (fine block)
  unfolding answer_of answer_with once handed
  answer_0 h e = rw (e, over_room block out h, le-leb (length block) (length out) h)
