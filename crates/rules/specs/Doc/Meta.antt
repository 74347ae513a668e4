-- Step 2: the first `meta`.
use Rattle.std.specs.Prelude.{ℕ, List, length, eqb}
use Rattle.rules.specs.Doc.Outcomes.{Outcome, fine, ◌>>=◌, require}
use Rattle.rules.specs.Doc.Lists.{any}
use Rattle.rules.specs.Doc.Bytes.{version}
use Rattle.rules.specs.Doc.Walks.{Walk}
use Rattle.rules.specs.Doc.Headers.{ftyp, Box, is, whole}
use Rattle.rules.specs.Doc.Ftyp.{top, stopped}

-- `meta` with no `ftyp` before it: 6, before its body is looked at. A `meta` body cut by the image's end is 2.
unfoldable pub opened_in : ℕ → Walk Box → Outcome Box
opened_in n w = do
  m ← stopped w.end
  _ ← require (any (is ftyp) w.list) 6
  _ ← whole 2 n m
  fine m

-- the whole `meta` that is opened
unfoldable pub opened : List ℕ → Outcome Box
opened img = opened_in (length img) (top img)

-- Its version is 0, else 8.
unfoldable pub meta_test : List ℕ → Outcome (Unit {0})
meta_test body = do
  v ← version body 0
  require (eqb v 0) 8
