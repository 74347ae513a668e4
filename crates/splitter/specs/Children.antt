-- How many whole boxes stand one behind the other from the front, by the rules inside a box: up to the first that is refused, or the end.
use Rattle.std.specs.Prelude.{ℕ, ◌-◌, false, List, length}
use Rattle.rules.specs.Doc.Outcomes.{fine}
use Rattle.rules.specs.Doc.Walks.{End, ended, cut_at, refused_at, stopped_at, Walk}
use Rattle.rules.specs.Doc.Headers.{Box}
use Rattle.rules.specs.Doc.Levels.{Level, boxes, inside}

-- boxes inside a box, of which none is opened
unfoldable pub unopened : Level
unopened = inside (λ kind. false) (λ body. fine tt)

-- The box that is refused was walked too, and is not whole.
unfoldable pub refused_in : End Box → ℕ
refused_in ended = 0
refused_in (cut_at n at) = 0
refused_in (refused_at n b) = 1
refused_in (stopped_at b) = 0

unfoldable pub whole_in : Walk Box → ℕ
whole_in w = length w.list - refused_in w.end

-- from a position
unfoldable pub whole_from : List ℕ → ℕ → ℕ
whole_from s at = whole_in (boxes unopened s at)

unfoldable pub whole_children : List ℕ → ℕ
whole_children s = whole_from s 0
