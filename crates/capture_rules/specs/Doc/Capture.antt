-- The steps in reading order, date before bias.
use Rattle.std.specs.Prelude.{ℕ, not, List, take, eqb}
use Rattle.std.proofs.Math.Option.{Option, none, some}
use Rattle.rules.specs.Doc.Outcomes.{Outcome, fine, ◌>>=◌, require, given}
use Rattle.rules.specs.Doc.Endian.{Endian, number_in}
use Rattle.rules.specs.Doc.Answers.{Answer}
use Rattle.jpeg_rules.specs.Doc.Either.{either_answer}
use Rattle.capture_rules.specs.Doc.Header.{header}
use Rattle.capture_rules.specs.Doc.Directory.{ASCII, LONG, SRATIONAL, exif_pointer, date_time_original, exposure_bias_value, Entry, Directory, directory, find, holds, value_of}
use Rattle.capture_rules.specs.Doc.Time.{Time, time}
use Rattle.capture_rules.specs.Doc.Fraction.{Fraction, signed32, lowest}

-- What is asked of a picture: when it was taken, and its exposure bias, which may be missing.
pub record Capture : Type 0 where
  pub time : Time
  pub bias : Option Fraction

-- Where the Exif directory is, by the first directory: one LONG. No such entry, or another type or count: 36.
unfoldable pub exif_at : Endian → List ℕ → Directory → Outcome ℕ
exif_at e b d = do
  x ← given (find e b d exif_pointer) 36
  _ ← require (holds LONG 1 x) 36
  fine x.place

-- When the picture was taken, by the Exif directory. No such entry, or not ASCII of count 20: 37.
unfoldable pub date_in : Endian → List ℕ → Directory → Outcome Time
date_in e b d = do
  x ← given (find e b d date_time_original) 37
  _ ← require (holds ASCII 20 x) 37
  v ← value_of b 20 x
  time v

-- two signed numbers of four bytes. A denominator of zero: 39.
unfoldable pub fraction_in : Endian → List ℕ → Outcome Fraction
fraction_in e v = do
  _ ← require (not (eqb (number_in e v 4 4) 0)) 39
  fine (lowest (signed32 (number_in e v 0 4)) (signed32 (number_in e v 4 4)))

-- the bias that an entry has. Not SRATIONAL of count 1: 38.
unfoldable pub entry_bias : Endian → List ℕ → Entry → Outcome Fraction
entry_bias e b x = do
  _ ← require (holds SRATIONAL 1 x) 38
  v ← value_of b 8 x
  fraction_in e v

-- No entry, no bias: that is an answer, and no refusal.
unfoldable pub if_there : {A B : Type 0} → (A → Outcome B) → Option A → Outcome (Option B)
if_there f none = fine none
if_there f (some x) = f x >>= λ y. fine (some y)

unfoldable pub bias_in : Endian → List ℕ → Directory → Outcome (Option Fraction)
bias_in e b d = if_there (entry_bias e b) (find e b d exposure_bias_value)

-- Where both are refused, the number is the date's.
unfoldable pub in_order : Outcome Time → Outcome (Option Fraction) → Outcome Capture
in_order date bias = do
  t ← date
  x ← bias
  fine (record { time = t; bias = x })

-- what the Exif directory says
unfoldable pub capture_in : Endian → List ℕ → Directory → Outcome Capture
capture_in e b d = in_order (date_in e b d) (bias_in e b d)

-- what the first directory leads to
unfoldable pub capture_from : Endian → List ℕ → Directory → Outcome Capture
capture_from e b first = do
  at ← exif_at e b first
  exif ← directory e b at
  capture_in e b exif

-- of a block
unfoldable pub capture : List ℕ → Outcome Capture
capture b = do
  h ← header b
  d ← directory h.order b h.first
  capture_from h.order b d

-- of what extraction answered: its number, or what its block says
unfoldable pub of_answer : Answer → Outcome Capture
of_answer a = require (eqb a.number 0) a.number >>= λ u. capture (take a.length a.output)

-- of an image, HEIF or JPEG, by extraction into an output buffer
unfoldable pub photo : List ℕ → List ℕ → Outcome Capture
photo img out = of_answer (either_answer img out)
