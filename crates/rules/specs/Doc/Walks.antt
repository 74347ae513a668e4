-- A walk gives the list of what it met, and how it ended.
use Rattle.std.specs.Prelude.{ℕ, zero, suc, List, [], ◌∷◌}
use Rattle.rules.specs.Doc.Outcomes.{Outcome, fine, refused}

-- after a thing that was met, the walk goes on from a position, or ends there
pub data Then : Type 0 where
  onward : ℕ → Then
  halt : Then

-- at a position: no more; nothing whole, which is refused with a number; or a thing, and what is said of it
pub data Step (A : Type 0) : Type 0 where
  over : Step A
  cut : ℕ → Step A
  met : A → Outcome Then → Step A

-- `ended`: no more; `cut_at n at`: refused with n, with nothing whole at `at`; `refused_at n x`: refused with n, at x; `stopped_at x`: x ends it
pub data End (A : Type 0) : Type 0 where
  ended : End A
  cut_at : ℕ → ℕ → End A
  refused_at : ℕ → A → End A
  stopped_at : A → End A

pub record Walk (A : Type 0) : Type 0 where
  pub list : List A
  pub end : End A

-- a walk that met nothing
unfoldable pub bare : {A : Type 0} → End A → Walk A
bare e = record { list = []; end = e }

-- a walk that met x first
unfoldable pub walked : {A : Type 0} → A → Walk A → Walk A
walked x w = record { list = x ∷ w.list; end = w.end }

-- what follows a thing that was met: the rest of the walk, or its end
unfoldable pub judged : {A : Type 0} → A → Outcome Then → (ℕ → Walk A) → Walk A
judged x (fine (onward next)) go = go next
judged x (fine halt) go = bare (stopped_at x)
judged x (refused n) go = bare (refused_at n x)

-- what follows a step
unfoldable pub after : {A : Type 0} → ℕ → Step A → (ℕ → Walk A) → Walk A
after at over go = bare ended
after at (cut n) go = bare (cut_at n at)
after at (met x v) go = walked x (judged x v go)

-- at most n things, each at the position that the one before it leads to
unfoldable pub run : {A : Type 0} → (ℕ → Step A) → ℕ → ℕ → Walk A
run step zero at = bare ended
run step (suc n) at = after at (step at) (run step n)

-- whether a walk was refused, and with which number
unfoldable pub outcome : {A : Type 0} → End A → Outcome (Unit {0})
outcome ended = fine tt
outcome (cut_at n at) = refused n
outcome (refused_at n x) = refused n
outcome (stopped_at x) = fine tt
