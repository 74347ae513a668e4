-- The request's example and its neighbours, one list with one claim. The checker computes them.
-- No axiom and no premise is used.
use Rattle.std.specs.Prelude.{ℕ, Bool, List, [], ◌∷◌, ◌++◌, T}
use Rattle.rules.specs.Doc.Lists.{each, same}
use Rattle.rules.specs.Doc.Text.{ascii}
use Rattle.rules.specs.Doc.Listing.{newline}
use Rattle.rules.specs.Cases.{every}
use Prim.Native.String.{String}
use Rattle.sheet_rules.specs.Doc.Sheet.{sheet}
use Rattle.sheet_rules.specs.Unfold.{request}

pub record Case : Type 0 where
  pub input : List ℕ
  pub text : List ℕ

-- lines of letters, each with its newline
unfoldable pub typed : List String → List ℕ
typed ls = each (λ l. ascii l ++ newline) ls

unfoldable pub prints : List String → List String → Case
prints input text = record { input = typed input; text = typed text }

-- two good lines, and one of another shape behind them
unfoldable pub third : String → Case
third l = prints ("answer=0 length=4" ∷ "answer=7 length=0" ∷ l ∷ []) ("line=3" ∷ [])

unfoldable pub cases : List Case
cases =
    -- the request's own, and empty input
    prints ("answer=0 length=4" ∷ []) ("answer=0 files=1" ∷ "total files=1 bytes=4 largest=4" ∷ [])
    ∷ prints [] ("total files=0 bytes=0 largest=0" ∷ [])
    -- answers ascend, whatever the order of the lines
    ∷ prints ("answer=31 length=0" ∷ "answer=0 length=65535" ∷ "answer=2 length=0" ∷ "answer=0 length=10" ∷ "answer=99 length=0" ∷ "answer=2 length=0" ∷ [])
    ("answer=0 files=2" ∷ "answer=2 files=2" ∷ "answer=31 files=1" ∷ "answer=99 files=1" ∷ "total files=6 bytes=65545 largest=65535" ∷ [])
    -- another shape: first, and behind two good ones
    ∷ prints ("answer=0" ∷ "answer=0 length=4" ∷ []) ("line=1" ∷ [])
    ∷ third ""
    ∷ third "answer=00 length=4"
    ∷ third "answer=01 length=0"
    ∷ third "answer=0 length=04"
    ∷ third "answer= length=4"
    ∷ third "answer=0 length="
    ∷ third "answer=100 length=0"
    ∷ third "answer=0 length=65536"
    ∷ third "answer=2 length=4"
    ∷ third "answer=0 length=4 "
    ∷ third "answer=0  length=4"
    ∷ third "answer=0 Length=4"
    ∷ third "answer=-1 length=0"
    -- no newline behind the last line, only a newline, a carriage return before one
    ∷ record { input = ascii "answer=0 length=4"; text = typed ("line=1" ∷ []) }
    ∷ record { input = newline; text = typed ("line=1" ∷ []) }
    ∷ record { input = ascii "answer=0 length=4" ++ (13 ∷ 10 ∷ []); text = typed ("line=1" ∷ []) }
    ∷ []

unfoldable pub right : Case → Bool
right c = same (sheet c.input) c.text

pub all_cases : T (every right cases)
unfolding request every right cases typed prints third
all_cases = tt
