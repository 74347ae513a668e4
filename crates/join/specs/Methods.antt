-- What steps 7 to 9 decide before any extent is looked at, case by case.
use Rattle.std.specs.Prelude.{◌≡◌, List, ℕ}
use Rattle.std.proofs.Math.Option.{Option, none, some}
use Rattle.std.proofs.Math.Bool.{false}
use Rattle.std.proofs.Math.Dec.{eqb}
use borrow.Author.Tests.{eq-eqb, ne_eqb}
use Rattle.rules.specs.Doc.Outcomes.{fine, refused}
use Rattle.rules.specs.Doc.Iloc.{Chosen, chosen}
use Rattle.rules.specs.Doc.Answers.{Answer}
use Rattle.rules.specs.Doc.Join.{by_method}
use Rattle.rules.specs.OverBytes.{chosen_block, item_block, answer_of, refusal}
use Rattle.rules.specs.Laws.Gather.{answer_refused}
use Rattle.locations.specs.Told.{location_in}
use Rattle.locations.specs.declared.location.Location.{Location}
use Rattle.join.specs.Told.{block_by}

-- ---- Which entry, steps 7 and 8

module _ (image : List ℕ) (store : Option (List ℕ)) (iloc : List ℕ) (wanted : ℕ) (out : List ℕ) where
  abbrev item_answer : Answer
  item_answer = answer_of out (item_block image store iloc wanted)

  pub item_refused : {n : ℕ} → refused n ≡ chosen iloc wanted → refusal n out ≡ item_answer
  unfolding item_block
  item_refused {n} e = answer_refused n out (rw (← e))

  pub item_found : {c : Chosen} → fine c ≡ chosen iloc wanted
      → {a : Answer} → a ≡ answer_of out (chosen_block image store iloc c) → a ≡ item_answer
  unfolding item_block
  item_found e f = rw (← e) f

-- ---- Its method, step 9

module _ (image : List ℕ) (store : Option (List ℕ)) (l : Location) (out : List ℕ) where
  abbrev method : ℕ
  method = (location_in l).entry.method

  abbrev chosen_answer : Answer
  chosen_answer = answer_of out (chosen_block image store l.body.now (location_in l))

  pub method_0 : method ≡ 0 → (idat : List ℕ) → {a : Answer} → a ≡ answer_of out (block_by image idat l) → a ≡ chosen_answer
  unfolding chosen_block by_method
  method_0 m idat e = rw (eq-eqb method 0 m) (rw (eq-eqb method 0 m) at e)

  pub method_1 : method ≡ 1 → {idat : List ℕ} → store ≡ some idat → {a : Answer} → a ≡ answer_of out (block_by image idat l) → a ≡ chosen_answer
  unfolding chosen_block by_method
  method_1 m h e =
      let z : eqb method 0 ≡ false = rw m in
      rw (z, eq-eqb method 1 m, h) (rw z at e)

  pub method_21 : method ≡ 1 → store ≡ none → refusal 21 out ≡ chosen_answer
  unfolding chosen_block by_method
  method_21 m h = answer_refused 21 out (rw (m, h))

  pub method_22 : method ≡ 2 → refusal 22 out ≡ chosen_answer
  unfolding chosen_block by_method
  method_22 m = answer_refused 22 out (rw m)

  pub method_23 : (method ≡ 0 → ⊥) → (method ≡ 1 → ⊥) → (method ≡ 2 → ⊥) → refusal 23 out ≡ chosen_answer
  unfolding chosen_block by_method
  method_23 a b c = answer_refused 23 out (rw (ne_eqb method 0 a, ne_eqb method 1 b, ne_eqb method 2 c))
