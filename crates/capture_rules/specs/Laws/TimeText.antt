-- What is printed of a date is what stood there: the text with a zero byte behind it is the twenty bytes. So no digit is lost.
use Rattle.std.specs.Prelude.{◌≡◌, true, false, List, [], ◌∷◌, ◌++◌, ℕ, zero, suc, ◌+◌, ◌-◌, ◌*◌, ◌/◌, ◌%◌, ◌≤◌, ◌<◌, length, eqb}
use Rattle.std.proofs.Math.Path.{refl}
use Rattle.std.proofs.Common.{sym, ap, ◌∙◌, arith, lit≤, lit<, lt-ltb}
use Rattle.std.proofs.lemmas.Bool.{eqb-false}
use Rattle.rules.specs.Doc.Outcomes.{fine}
use Rattle.rules.specs.Doc.Bytes.{byte_at}
use Rattle.rules.specs.Doc.Text.{digit}
use Rattle.capture_rules.specs.Doc.Time.{Time, pattern, decimal_at, alike, time_in, time}
use Rattle.capture_rules.specs.Doc.Line.{two, time_text}
use Rattle.capture_rules.specs.Laws.Shape.{IsDigit, Digits, zeros, time_digits, alike_at, alike_length, fits_same, taken}

-- ---- Digits

digit_of : (c n : ℕ) → IsDigit c → n ≡ c - 48 → digit n ≡ c
unfolding digit
digit_of c n d e = rw (lt-ltb n 10 (omega arith)) (omega arith)

-- two digits make a number, which is printed as these two
two_of : (n a b : ℕ) → IsDigit a → IsDigit b → n ≡ (a - 48) * 10 + (b - 48) → two n ≡ a ∷ b ∷ []
unfolding two
two_of n a b d e f = rw (digit_of a (n / 10) d (omega arith), digit_of b (n % 10) e (omega arith))

module _ (s : List ℕ) (at : ℕ) where
  two_text : Digits s at 2 → two (decimal_at s at 2) ≡ byte_at s (at + 0) ∷ byte_at s (at + 1) ∷ []
  unfolding decimal_at
  two_text d = two_of (decimal_at s at 2) (byte_at s (at + 0)) (byte_at s (at + 1)) (d 0 (lit< tt)) (d 1 (lit< tt)) (omega arith)

  four_text : Digits s at 4
      → two (decimal_at s at 4 / 100) ++ two (decimal_at s at 4 % 100) ≡ byte_at s (at + 0) ∷ byte_at s (at + 1) ∷ byte_at s (at + 2) ∷ byte_at s (at + 3) ∷ []
  unfolding decimal_at
  four_text d =
      let a = d 0 (lit< tt) in
      let b = d 1 (lit< tt) in
      let c = d 2 (lit< tt) in
      let e = d 3 (lit< tt) in
      let n = decimal_at s at 4 in
      rw (
        two_of (n / 100) (byte_at s (at + 0)) (byte_at s (at + 1)) a b (omega arith),
        two_of (n % 100) (byte_at s (at + 2)) (byte_at s (at + 3)) c e (omega arith),
      )

-- ---- The twenty bytes

-- n bytes from a position, one by one
unfoldable bytes : List ℕ → ℕ → ℕ → List ℕ
bytes s at zero = []
bytes s at (suc n) = byte_at s at ∷ bytes s (suc at) n

bytes_rest : (c : ℕ) (s : List ℕ) (at n : ℕ) → bytes (c ∷ s) (suc at) n ≡ bytes s at n
unfolding bytes
bytes_rest c s at zero = refl
bytes_rest c s at (suc n) = ap (λ l. byte_at s at ∷ l) (bytes_rest c s (suc at) n)

all_bytes : (s : List ℕ) → bytes s 0 (length s) ≡ s
unfolding bytes
all_bytes [] = refl
all_bytes (c ∷ s) = ap (λ l. c ∷ l) (bytes_rest c s 0 (length s) ∙ all_bytes s)

module _ (s : List ℕ) (like : alike pattern s ≡ true) where
  -- a number of two digits, where the pattern has zeros
  pair : (at : ℕ) → zeros pattern at 2 ≡ true → at + 2 ≤ 20 → two (decimal_at s at 2) ≡ byte_at s (at + 0) ∷ byte_at s (at + 1) ∷ []
  pair at z h = two_text s at (time_digits s like at 2 z h).1

  -- where the pattern has no zero, its own byte stands
  stands : (i : ℕ) → eqb (byte_at pattern i) 48 ≡ false → i < 20 → byte_at s i ≡ byte_at pattern i
  unfolding pattern
  stands i n h = fits_same (byte_at pattern i) (byte_at s i) (eqb-false (byte_at pattern i) 48 n) (alike_at pattern s like i h)

  text_bytes : time_text (time_in s) ++ (0 ∷ []) ≡ bytes s 0 20
  unfolding bytes time_text time_in pattern zeros
  text_bytes =
      rw (
        four_text s 0 (time_digits s like 0 4 refl (lit≤ tt)).1,
        stands 4 refl (lit< tt),
        pair 5 refl (lit≤ tt),
        stands 7 refl (lit< tt),
        pair 8 refl (lit≤ tt),
        stands 10 refl (lit< tt),
        pair 11 refl (lit≤ tt),
        stands 13 refl (lit< tt),
        pair 14 refl (lit≤ tt),
        stands 16 refl (lit< tt),
        pair 17 refl (lit≤ tt),
        stands 19 refl (lit< tt),
      )

pub text_back : (s : List ℕ) {t : Time} → time s ≡ fine t → time_text t ++ (0 ∷ []) ≡ s
unfolding pattern
text_back s {t} e =
    let k = taken s e in
    let n : length s ≡ 20 = sym (alike_length pattern s k.shape) in
    rw (← k.read) (text_bytes s k.shape ∙ (rw n at (all_bytes s)))
