-- The sheet of an input by its front, whatever stands behind that.
use Rattle.std.specs.Prelude.{◌≡◌, ℕ, ◌<◌, List, ◌++◌, length, take, drop}
use Rattle.std.proofs.Common.{sym, ap, ◌∙◌, arith, length-take, take_all}
use Rattle.sheet_rules.specs.Doc.Sheet.{sheet}
use Rattle.sheet_rules.specs.Demands.Buffer.{most_bytes, front_sheet}

-- the whole sheet of an input was written to the front of a buffer
pub record Whole (input before : List ℕ) (r : ℕ) (after : List ℕ) : Type 0 where
  pub size : r ≡ length (sheet input)
  pub buffer : after ≡ sheet input ++ drop r before

-- the same of every input whose first bytes were read, n of them, into a buffer that can hold no more than it has
abbrev pub OfEvery : List ℕ → ℕ → List ℕ → ℕ → List ℕ → Type 0
OfEvery front n before r after = (input : List ℕ) → take (length front) input ≡ take n front → Whole input before r after

-- `lines` are those that were read
pub of_every : (front : List ℕ) (n : ℕ) {lines before : List ℕ} {r : ℕ} {after : List ℕ} → most_bytes < length front → take n front ≡ lines
    → r ≡ length (sheet lines) → after ≡ sheet lines ++ drop r before → OfEvery front n before r after
of_every front n {lines} h read e f input g =
    let same : sheet lines ≡ sheet input = ap sheet (sym (g ∙ read)) ∙ front_sheet (length front) h input in
    record { size = rw same at e; buffer = rw same at f }

-- there is such an input, the front itself
pub of_front : (front : List ℕ) (n : ℕ) {before : List ℕ} {r : ℕ} {after : List ℕ} → OfEvery front n before r after → Whole (take n front) before r after
of_front front n p = p (take n front) (take_all (length front) (take n front) (rw (length-take n front) (omega arith)))
