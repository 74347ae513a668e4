-- No two outcomes, answer and output together, meet a contract of this crate.
use Rattle.std.specs.Prelude.{[], ◌≡◌, refl, List, ℕ, ◌<◌, eqb, if◌then◌else◌, Ok, Err}
use Rattle.std.proofs.Common.{sym, ap, ◌∙◌, arith, ne_eqb}
use Rattle.rules.specs.Doc.Outcomes.{fine}
use Rattle.rules.specs.Doc.Answers.{Answer}
use Rattle.rules.specs.OverBytes.{answer_of}
use Rattle.rules.specs.Laws.Numbered.{went}
use Rattle.rules.specs.Laws.Room.{room_length}
use Rattle.boxes.specs.Told.{number}
use Rattle.boxes.specs.Unique.{as_refusal, refusal_back, not_done}
use Rattle.output.specs.Told.{Extracted, told}
use Rattle.output.specs.Copied.{Copied}
use Rattle.output.specs.declared.NoBlock.TheVariants.{NoRoom, Refused}

-- ---- Answers

as_extracted : Answer → Extracted
as_extracted a = if eqb a.number 0 then Ok a.length else if eqb a.number 28 then Err (NoRoom a.length) else Err (Refused (as_refusal a.number))

-- `NoRoom` of length 0 would be told as the refusal 28 is; but 28 carries a length
extracted_back : (x : Extracted) (out : List ℕ) → ((told x out).number ≡ 28 → 0 < (told x out).length) → as_extracted (told x out) ≡ x
unfolding as_extracted
extracted_back (Ok n) out h = refl
extracted_back (Err (NoRoom n)) out h = refl
extracted_back (Err (Refused e)) out h =
    let room : number e ≡ 28 → ⊥ = λ k. let z = h k in omega arith in
    rw (ne_eqb (number e) 0 (not_done e), ne_eqb (number e) 28 room) (ap (λ r. Err (Refused r)) (refusal_back e))

pub output_told : (x : Extracted) (out : List ℕ) → (told x out).output ≡ out
output_told (Ok n) out = refl
output_told (Err (NoRoom n)) out = refl
output_told (Err (Refused e)) out = refl

-- an answer tells one outcome
pub told_one : {a : Answer} → (a.number ≡ 28 → 0 < a.length) → (x y : Extracted) (after after' : List ℕ)
    → told x after ≡ a → told y after' ≡ a → (x ≡ y) × (after ≡ after')
told_one {a} h x y after after' e f = (
  sym (back x after e) ∙ ap as_extracted (e ∙ sym f) ∙ back y after' f,
  sym (output_told x after) ∙ ap (λ (a : Answer). a.output) (e ∙ sym f) ∙ output_told y after',
)
  where
    back : (x : Extracted) (out : List ℕ) → told x out ≡ a → as_extracted (told x out) ≡ x
    back x out e = extracted_back x out (rw e h)

-- ---- The functions

-- of `numbers`
pub numbers_one : (x : Extracted) {n m n' m' : ℕ} → ((out : List ℕ) → (n ≡ (told x out).number) × (m ≡ (told x out).length))
    → ((out : List ℕ) → (n' ≡ (told x out).number) × (m' ≡ (told x out).length)) → (n ≡ n') × (m ≡ m')
numbers_one x p q = ((p []).0 ∙ sym (q []).0, (p []).1 ∙ sym (q []).1)

-- of `put`
pub put_one : {bytes : List ℕ} {at : ℕ} {before : List ℕ} {r r' : ℕ} {after after' : List ℕ}
    → Copied bytes at before r after → Copied bytes at before r' after' → (r ≡ r') × (after ≡ after')
put_one p q = (p.place ∙ sym q.place, p.buffer ∙ sym q.buffer)

-- of `hand_out`
pub hand_out_one : (block out : List ℕ) (x y : Extracted) (after after' : List ℕ)
    → told x after ≡ answer_of out (fine block) → told y after' ≡ answer_of out (fine block) → (x ≡ y) × (after ≡ after')
unfolding answer_of
hand_out_one block out x y after after' e f = told_one (room_length out _ (fine block) went) x y after after' e f
