-- The line that says what was read of a photograph: `answer=0 date=2023:06:14 09:26:53 bias=-1/2`, or `answer=` and the number of the refusal.
use Rattle.std.specs.Prelude.{ℕ, ◌/◌, ◌%◌, List, [], ◌∷◌, ◌++◌, ℤ, pos, nat_abs, if◌then◌else◌}
use Rattle.std.proofs.Math.Option.{Option, none, some}
use Rattle.std.specs.Int.Signed.{lt_z}
use Rattle.rules.specs.Doc.Outcomes.{Outcome, fine, refused}
use Rattle.rules.specs.Doc.Text.{ascii, digit, decimal}
use Rattle.rules.specs.Doc.Listing.{newline, named}
use Rattle.capture_rules.specs.Doc.Time.{Time}
use Rattle.capture_rules.specs.Doc.Fraction.{Fraction}
use Rattle.capture_rules.specs.Doc.Capture.{Capture}

-- the two digits of a number below 100
unfoldable pub two : ℕ → List ℕ
two n = digit (n / 10) ∷ digit (n % 10) ∷ []

-- three numbers with colons between them
abbrev pub three : List ℕ → List ℕ → List ℕ → List ℕ
three a b c = a ++ ascii ":" ++ b ++ ascii ":" ++ c

-- as it stands in the block, without the zero byte
unfoldable pub time_text : Time → List ℕ
time_text t =
    three (two (t.year / 100) ++ two (t.year % 100)) (two t.month) (two t.day)
    ++ ascii " "
    ++ three (two t.hour) (two t.minute) (two t.second)

unfoldable pub sign_text : ℤ → List ℕ
sign_text x = if lt_z x (pos 0) then ascii "-" else []

unfoldable pub bias_text : Option Fraction → List ℕ
bias_text none = ascii "none"
bias_text (some f) = sign_text f.num ++ decimal (nat_abs f.num) ++ ascii "/" ++ decimal f.den

unfoldable pub line_text : Outcome Capture → List ℕ
line_text (refused n) = named "answer=" n ++ newline
line_text (fine c) = ascii "answer=0 date=" ++ time_text c.time ++ ascii " bias=" ++ bias_text c.bias ++ newline
