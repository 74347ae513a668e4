-- How long the line is: at most 62 bytes of a date and a bias of 32 bits, at most 10 of a refusal. And which letters the two digits are.
use Rattle.std.specs.Prelude.{◌≡◌, refl, ℕ, ◌+◌, ◌/◌, ◌%◌, ◌^◌, ◌≤◌, ◌<◌, List, [], ◌∷◌, length, ℤ, pos, nat_abs}
use Rattle.std.proofs.Common.{arith, length-append, lit≤, lt-ltb}
use Rattle.std.proofs.Math.Option.{Option, none, some}
use Rattle.std.specs.Int.Signed.{lt_z}
use Rattle.rules.specs.Doc.Outcomes.{fine, refused}
use Rattle.rules.specs.Doc.Text.{digit}
use Rattle.rules.specs.Laws.Rows.{by_test}
use Rattle.rules.specs.Laws.Text.{two_digits, ten_digits}
use Rattle.capture_rules.specs.Doc.Time.{Time}
use Rattle.capture_rules.specs.Doc.Fraction.{Fraction}
use Rattle.capture_rules.specs.Doc.Capture.{Capture}
use Rattle.capture_rules.specs.Doc.Line.{two, time_text, sign_text, bias_text, line_text}

-- ---- The date

pub two_below : (n : ℕ) → n < 100 → two n ≡ (48 + n / 10) ∷ (48 + n % 10) ∷ []
unfolding two digit
two_below n h = rw (lt-ltb (n / 10) 10 (omega arith), lt-ltb (n % 10) 10 (omega arith))

pub time_length : (t : Time) → length (time_text t) ≡ 19
unfolding two time_text
time_length t = refl

-- ---- The bias

-- of 32 bits
abbrev pub Small : Option Fraction → Type 0
Small none = Unit {0}
Small (some f) = (nat_abs f.num ≤ 2 ^ 31) × (f.den ≤ 2 ^ 31)

sign_length : (x : ℤ) → length (sign_text x) ≤ 1
unfolding sign_text
sign_length x = by_test (λ (s : List ℕ). length s ≤ 1) (lt_z x (pos 0)) (λ e. lit≤ tt) (λ e. lit≤ tt)

pub bias_length : (b : Option Fraction) → Small b → length (bias_text b) ≤ 22
unfolding bias_text
bias_length none s = lit≤ tt
bias_length (some f) (n, d) =
    let top = ten_digits (nat_abs f.num) (omega arith) in
    let below = ten_digits f.den (omega arith) in
    simp length-append (omega (arith, sign_length f.num))

-- ---- The line

pub line_length : (c : Capture) → Small c.bias → length (line_text (fine c)) ≤ 62
unfolding line_text
line_length c s = simp length-append (omega (arith, time_length c.time, bias_length c.bias s))

pub refusal_length : (n : ℕ) → n < 100 → length (line_text (refused n)) ≤ 10
unfolding line_text
refusal_length n h = simp length-append (omega (arith, two_digits n h))
