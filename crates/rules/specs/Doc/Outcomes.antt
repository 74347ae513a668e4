-- A step goes on with a value, or is refused with a number of the table "Numbers given back".
use Rattle.std.specs.Prelude.{ℕ, Bool, true, false, List, []}
use Rattle.std.proofs.Math.Option.{Option, none, some}

infixl 2 ◌>>=◌
pub data Outcome (A : Type 0) : Type 0 where
  fine : A → Outcome A
  refused : ℕ → Outcome A

-- The first rule broken gives the number.
abbrev pub ◌>>=◌ : {A B : Type 0} → Outcome A → (A → Outcome B) → Outcome B
fine a >>= f = f a
refused n >>= f = refused n

-- go on if the test holds, else n
abbrev pub require : Bool → ℕ → Outcome (Unit {0})
require true n = fine tt
require false n = refused n

-- what must be there, else n
abbrev pub given : {A : Type 0} → Option A → ℕ → Outcome A
given none n = refused n
given (some a) n = fine a

-- whether a step was not refused
unfoldable pub is_fine : {A : Type 0} → Outcome A → Bool
is_fine (fine a) = true
is_fine (refused n) = false

-- what a step that was not refused gives; nothing of one that was
unfoldable pub once : {A B : Type 0} → (A → List B) → Outcome A → List B
once f (fine a) = f a
once f (refused n) = []
