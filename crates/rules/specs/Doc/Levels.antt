-- A level is data: the number of a cut header, what must fit, which bodies are opened and tested, and which box ends the walk.
use Rattle.std.specs.Prelude.{ℕ, Bool, false, List, length, leb, if◌then◌else◌}
use Rattle.std.proofs.Math.Option.{Option, none, some}
use Rattle.rules.specs.Doc.Outcomes.{Outcome, fine, refused, ◌>>=◌}
use Rattle.rules.specs.Doc.Bytes.{bytes_in}
use Rattle.rules.specs.Doc.Walks.{Then, onward, halt, Step, over, cut, met, Walk, run}
use Rattle.rules.specs.Doc.Headers.{Header, header_at, body_size, Box, box_with, whole}

-- `opens` and `ends` go by the type.
pub record Level : Type 0 where
  pub cut_number : ℕ
  pub fits : ℕ → Box → Outcome (Unit {0})
  pub opens : ℕ → Bool
  pub test : List ℕ → Outcome (Unit {0})
  pub ends : ℕ → Bool

-- what is tested of a body that is opened
unfoldable pub tested : Level → List ℕ → Box → Outcome (Unit {0})
tested l s b = if l.opens b.kind then l.test (bytes_in s b.body) else fine tt

-- It must fit; what is opened must stand the test; then the walk goes on behind it, or ends.
unfoldable pub said : Level → List ℕ → Box → Outcome Then
said l s b = do
  _ ← l.fits (length s) b
  _ ← tested l s b
  fine (if l.ends b.kind then halt else onward b.body.to)

-- the size that was decided on; of a refused one, no body
unfoldable pub decided : Outcome ℕ → ℕ
decided (fine size) = size
decided (refused n) = 0

-- The box that is refused was walked too.
unfoldable pub box_step : Level → List ℕ → Option Header → Step Box
box_step l s none = cut l.cut_number
box_step l s (some h) = met (box_with h (decided (body_size (length s) h))) (body_size (length s) h >>= λ size. said l s (box_with h size))

-- At the end of the bytes there is no more.
unfoldable pub level_step : Level → List ℕ → ℕ → Step Box
level_step l s at = if leb (length s) at then over else box_step l s (header_at s at)

-- the boxes from a position to the end; there are no more of them than bytes
unfoldable pub boxes : Level → List ℕ → ℕ → Walk Box
boxes l s at = run (level_step l s) (length s) at

-- that many boxes
unfoldable pub counted_boxes : Level → List ℕ → ℕ → ℕ → Walk Box
counted_boxes l s count at = run (λ at. box_step l s (header_at s at)) count at

-- no type
abbrev never : ℕ → Bool
never kind = false

-- Inside a box: a header or body that doesn't fit is 3; boxes of one type are opened, and none ends the walk.
unfoldable pub inside : (ℕ → Bool) → (List ℕ → Outcome (Unit {0})) → Level
inside opens test = record { cut_number = 3; fits = whole 3; opens = opens; test = test; ends = never }
