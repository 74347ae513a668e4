-- Demands 1 and 3 for every call that answers for a block as its contract says, whatever the format: `b` is the block, or the refusal of one before
-- the room; `r` is what the call answers, `after` the output after it.
use Rattle.std.specs.Prelude.{◌≡◌, refl, ℕ, List, length, Ok, Err}
use Rattle.std.proofs.Common.{sym, ap, ◌∙◌, arith, ⊎_elim}
use Rattle.rules.specs.Doc.Outcomes.{Outcome, fine, refused}
use Rattle.rules.specs.Doc.Answers.{Answer, answer_by}
use Rattle.rules.specs.Laws.Room.{Early}
use Rattle.rules.specs.Demands.One.{Longer, Written, length_said, refusal_said, block_said, room_only_then, room_then, needs_length, refusal_keeps, success_writes}
use Rattle.boxes.specs.Told.{number}
use Rattle.boxes.specs.Unique.{not_done}
use Rattle.boxes.specs.declared.refusal.Refusal.{Refusal}
use Rattle.output.specs.Told.{Extracted, told}
use Rattle.output.specs.Unique.{output_told, told_one}
use Rattle.output.specs.declared.NoBlock.TheVariants.{NoRoom, Refused}

-- the block has n bytes
pub record BlockOf (b : Outcome (List ℕ)) (n : ℕ) : Type 0 where
  pub positions : List ℕ
  pub is_block : b ≡ fine positions
  pub size : n ≡ length positions

-- what an answer says: the block's length, with room or without, or the number by which the block is refused
abbrev pub Says : Outcome (List ℕ) → Extracted → Type 0
Says b (Ok n) = BlockOf b n
Says b (Err (NoRoom n)) = BlockOf b n
Says b (Err (Refused e)) = b ≡ refused (number e)

module _ (img out : List ℕ) (b : Outcome (List ℕ)) (before : Early b) where
  -- No two outcomes, answer and output together, meet the contract.
  pub answer_one : (x y : Extracted) (after after' : List ℕ) → told x after ≡ answer_by b img out → told y after' ≡ answer_by b img out
      → (x ≡ y) × (after ≡ after')
  answer_one x y after after' e f = told_one (needs_length img out before) x y after after' e f

  module _ (after : List ℕ) where
    sized : (r : Extracted) (ps : List ℕ) → told r after ≡ answer_by b img out → b ≡ fine ps → BlockOf b (told r after).length
    sized r ps meets e = record { positions = ps; is_block = e; size = ap (λ (a : Answer). a.length) meets ∙ length_said img out e }

    refused_by : (e : Refusal) → told (Err (Refused e)) after ≡ answer_by b img out → (o : Outcome (List ℕ)) → b ≡ o → b ≡ refused (number e)
    refused_by e meets (refused n) f =
        let z : number e ≡ n = ap (λ (a : Answer). a.number) meets ∙ refusal_said img out f in
        f ∙ ap refused (sym z)
    refused_by e meets (fine ps) f = absurd (⊎_elim done room (block_said img out f))
      where
        done : (answer_by b img out).number ≡ 0 → ⊥
        done h = not_done e (ap (λ (a : Answer). a.number) meets ∙ h)

        room : (answer_by b img out).number ≡ 28 → ⊥
        room h =
            let z : 0 ≡ (answer_by b img out).length = ap (λ (a : Answer). a.length) meets in
            omega (arith, needs_length img out before h)

    -- Every image, with an output buffer of every length, gets an answer: the block's length, or one refusal by number. (That a call ends with one is
    -- the proof of the function itself; here is what the answer says of the image.)
    pub gets_answer : (r : Extracted) → told r after ≡ answer_by b img out → Says b r
    gets_answer (Ok n) meets = sized (Ok n) _ meets (success_writes img out b before (sym (ap (λ (a : Answer). a.number) meets))).is_block
    gets_answer (Err (NoRoom n)) meets = sized (Err (NoRoom n)) _ meets (room_only_then img out b before (sym (ap (λ (a : Answer). a.number) meets))).is_block
    gets_answer (Err (Refused e)) meets = refused_by e meets b refl

  module _ (r : Extracted) (after : List ℕ) (meets : told r after ≡ answer_by b img out) where
    number_is : (told r after).number ≡ (answer_by b img out).number
    number_is = ap (λ (a : Answer). a.number) meets

    pub output_is : after ≡ (answer_by b img out).output
    output_is = sym (output_told r after) ∙ ap (λ (a : Answer). a.output) meets

    -- A refusal changes no byte of the output; success changes the block's bytes only.
    pub refusal_untouched : ((told r after).number ≡ 0 → ⊥) → after ≡ out
    refusal_untouched k = output_is ∙ refusal_keeps img out b (λ h. k (number_is ∙ h))

    pub success_only_block : (told r after).number ≡ 0 → Written b img out after
    success_only_block h = rw output_is (success_writes img out b before (sym number_is ∙ h))

    -- The room refusal is given exactly when the block is longer than the buffer.
    pub room_exactly : ((told r after).number ≡ 28 → Longer b out) × (Longer b out → (told r after).number ≡ 28)
    room_exactly = (λ h. room_only_then img out b before (sym number_is ∙ h), λ l. number_is ∙ room_then img out l)

-- Two calls, for images whose answers are the same by the definitions: the same answer, and the same buffer.
pub no_say : (a out : List ℕ) (b : Outcome (List ℕ)) → Early b → {d : Answer} → answer_by b a out ≡ d
    → (r s : Extracted) (after after' : List ℕ) → told r after ≡ answer_by b a out → told s after' ≡ d
    → (r ≡ s) × (after ≡ after') × (told s after' ≡ answer_by b a out)
no_say a out b before e r s after after' p q =
    let k : told s after' ≡ answer_by b a out = q ∙ sym e in
    let (x, y) = answer_one a out b before r s after after' p k in
    (x, y, k)
