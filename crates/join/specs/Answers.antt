-- The end of a loop over the extents, and each answer of `extract_joined`, from what its callees ensure.
use Rattle.std.specs.Prelude.{◌≡◌, List, [], ℕ, ◌+◌, ◌-◌, ◌≤◌, ◌<◌, length, drop, leb, Result, Ok, Err}
use Rattle.std.proofs.Common.{sym, ap, ◌∙◌, arith, length-drop, drop_of_length-le}
use Rattle.std.proofs.lemmas.List.Edits.{sets}
use borrow.Author.Tests.{le-leb, lt-leb}
use Rattle.rules.specs.Doc.Outcomes.{fine, ◌>>=◌, require}
use Rattle.rules.specs.Doc.Bytes.{number_at}
use Rattle.rules.specs.Doc.Block.{block_after}
use Rattle.rules.specs.Doc.Answers.{Answer}
use Rattle.rules.specs.OverBytes.{total_from, block_of, block_from, answer_of}
use Rattle.rules.specs.Laws.Gather.{answer_refused}
use Rattle.rules.specs.Laws.Places.{lies_inside}
use Rattle.rules.specs.Laws.Totals.{total_is}
use Rattle.boxes.specs.Told.{number}
use Rattle.boxes.specs.declared.refusal.Refusal.{Refusal}
use Rattle.boxes.specs.declared.refusal.Refusal.TheVariants.{UnderFour, HeaderOffset}
use Rattle.output.specs.Told.{told}
use Rattle.output.specs.Answers.{answer_28, answer_0}
use Rattle.output.specs.declared.NoBlock.TheVariants.{NoRoom, Refused}
use Rattle.locations.specs.Told.{location_in, extents_of}
use Rattle.locations.specs.Located.{extents_count}
use Rattle.locations.specs.declared.location.Location.{Location}
use Rattle.join.specs.Told.{total_of, source, lies_by, joined_of, block_by}

-- after the last extent there is none left
pub extents_end : (l : Location) (k : ℕ) → l.entry.extent_count ≤ k → drop k (extents_of l) ≡ []
extents_end l k h = drop_of_length-le (extents_of l) (omega (arith, extents_count l))

module _ (image idat : List ℕ) (l : Location) (out : List ℕ) where
  abbrev s : List ℕ
  s = source (location_in l).entry.method image idat

  abbrev bytes : List ℕ
  bytes = joined_of image idat l

  abbrev joined_answer : Answer
  joined_answer = answer_of out (block_by image idat l)

  -- n is how many bytes the method names, and r what the pass over the extents says
  module _ {n : ℕ} (len : n ≡ length s) (r : Result ℕ Refusal) (pass : total_of r ≡ total_from (lies_by l n) 0 (extents_of l)) where
    passed : {q : Result ℕ Refusal} → r ≡ q → total_of q ≡ total_from (lies_by l (length s)) 0 (extents_of l)
    passed k = sym (ap total_of k) ∙ rw len at pass

    pub block_refused : {e : Refusal} → r ≡ Err e → told (Err (Refused e)) out ≡ joined_answer
    unfolding block_from
    block_refused {e} k = answer_refused (number e) out (rw (← passed k))

    module _ {t : ℕ} (k : r ≡ Ok t) where
      size_is : length bytes ≡ t
      size_is =
          let inside = lies_inside (location_in l).entry.method (length s) (location_in l).entry.base in
          omega (arith, total_is (lies_by l (length s)) s inside 0 t (extents_of l) (passed k))

      pub block_25 : t < 4 → told (Err (Refused UnderFour)) out ≡ joined_answer
      unfolding block_from block_of block_after
      block_25 h = answer_refused 25 out (rw (← passed k, size_is, lt-leb 4 t h))

      module _ {offset : ℕ} (f : offset ≡ number_at bytes 0 4) (h : 4 ≤ t) where
        abbrev block : List ℕ
        block = drop (4 + offset) bytes

        block_by_is : block_by image idat l ≡ (require (leb offset (t - 4)) 26 >>= λ u. fine block)
        unfolding block_from block_of block_after
        block_by_is = rw (← passed k, size_is, le-leb 4 t h, ← f)

        pub block_26 : t - 4 < offset → told (Err (Refused HeaderOffset)) out ≡ joined_answer
        block_26 g = answer_refused 26 out (rw (block_by_is, lt-leb offset (t - 4) g))

        module _ (g : offset ≤ t - 4) where
          abbrev need : ℕ
          need = t - 4 - offset

          block_is : block_by image idat l ≡ fine block
          block_is = rw (block_by_is, le-leb offset (t - 4) g)

          block_size : length block ≡ need
          block_size = simp length-drop (omega (arith, size_is))

          pub block_28 : length out < need → told (Err (NoRoom need)) out ≡ joined_answer
          block_28 m = rw (block_is, ← block_size) (answer_28 block out (omega (arith, block_size)))

          pub block_0 : need ≤ length out → {after : List ℕ} → after ≡ sets out 0 block → told (Ok need) after ≡ joined_answer
          block_0 m w = rw (block_is, ← block_size) (answer_0 block out (omega (arith, block_size)) w)
