-- The header of a block: its byte order, 42, which every TIFF file has there, and where its first directory is.
use Rattle.std.specs.Prelude.{ℕ, List, length, leb, eqb, if◌then◌else◌}
use Rattle.std.proofs.Math.Option.{Option, none, some}
use Rattle.rules.specs.Doc.Outcomes.{Outcome, fine, ◌>>=◌, require, given}
use Rattle.rules.specs.Doc.Bytes.{number_at}
use Rattle.rules.specs.Doc.Endian.{Endian, big, little, number_in}
use Rattle.rules.specs.Doc.Text.{ascii}

-- the number that two letters are
abbrev pub II : ℕ
II = number_at (ascii "II") 0 2

abbrev pub MM : ℕ
MM = number_at (ascii "MM") 0 2

pub record Header : Type 0 where
  pub order : Endian
  pub first : ℕ

-- `II` is little-endian, `MM` big-endian. The two letters are the same, so either byte order reads them alike.
unfoldable pub order_of : ℕ → Option Endian
order_of letters = if eqb letters II then some little else if eqb letters MM then some big else none

-- A block shorter than 8 bytes, neither `II` nor `MM`, or not 42: 34.
unfoldable pub header : List ℕ → Outcome Header
header b = do
  _ ← require (leb 8 (length b)) 34
  order ← given (order_of (number_at b 0 2)) 34
  _ ← require (eqb (number_in order b 2 2) 42) 34
  fine (record { order = order; first = number_in order b 4 4 })
