-- From extraction to the photo, by what extraction promises alone: `r` is what it answered, `after` the output after it.
use Rattle.std.specs.Prelude.{◌≡◌, List, ℕ, ◌≤◌, take, Ok, Err}
use Rattle.std.proofs.Math.Path.{refl, ap}
use Rattle.std.proofs.Common.{◌∙◌, arith, length-append}
use Rattle.std.proofs.Math.ListN.{length}
use Rattle.std.proofs.lemmas.List.{length-map}
use borrow.Author.Tests.{ne_eqb}
use Rattle.rules.specs.Doc.Outcomes.{Outcome, refused}
use Rattle.rules.specs.Doc.Block.{bytes_at}
use Rattle.rules.specs.Doc.Answers.{Answer}
use Rattle.boxes.specs.Told as boxes
use Rattle.boxes.specs.Unique.{not_done}
use Rattle.output.specs.Told.{Extracted, told}
use Rattle.output.specs.declared.NoBlock.{NoBlock}
use Rattle.output.specs.declared.NoBlock.TheVariants.{NoRoom, Refused}
use Rattle.rules.specs.Demands.One.{length_said}
use Rattle.jpeg_rules.specs.Doc.Either.{either_answer}
use Rattle.reader.specs.Demands.{success_only_block}
use Rattle.capture_rules.specs.Doc.Capture.{Capture, capture, of_answer, photo}
use Rattle.capture.specs.Told.{number, not_handed}
use Rattle.capture.specs.declared.NotRead.{NotRead}

module _ (img out after : List ℕ) (r : Extracted) (meets : told r after ≡ either_answer img out) where
  -- whatever the reason, its number is the photo's
  pub photo_refused : {e : NoBlock} {x : NotRead} → r ≡ Err e → x ≡ not_handed e → refused (number x) ≡ photo img out
  unfolding photo of_answer
  photo_refused {e = NoRoom n} f g = rw (← meets, f, g) refl
  photo_refused {e = Refused e} f g = rw (← meets, f, g, ne_eqb (boxes.number e) 0 (not_done e)) refl

  module _ {n : ℕ} (f : r ≡ Ok n) where
    -- the block lies in the output
    pub block_inside : n ≤ length after
    unfolding bytes_at
    block_inside =
        let done : told (Ok n) after ≡ either_answer img out = rw f at meets in
        let w = success_only_block img out (Ok n) after done refl in
        let size : n ≡ length w.positions = ap (λ (a : Answer). a.length) done ∙ length_said img out w.is_block in
        rw w.front (simp (length-append, length-map) (omega (arith, size)))

    pub photo_read : {o : Outcome Capture} → o ≡ capture (take n after) → o ≡ photo img out
    unfolding photo of_answer
    photo_read g = rw (← meets, f) g
