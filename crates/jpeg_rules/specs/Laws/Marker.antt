-- Where the marker byte stands: at the first byte that is no FF, from a position on.
use Rattle.std.specs.Prelude.{◌≡◌, Bool, List, length, eqb}
use Rattle.std.proofs.Math.Path.{refl}
use Prim.Native.Nat.{ℕ, zero, suc, ◌+◌, ◌-◌, ◌≤◌, ◌<◌}
use Rattle.std.proofs.Common.{arith}
use Rattle.std.proofs.Math.Bool.{true, false}
use Rattle.rules.specs.Doc.Bytes.{byte_at}
use Rattle.rules.specs.Laws.Rows.{by_test}
use Rattle.jpeg_rules.specs.Doc.Segments.{prefix, past_fill, marker_at}

past_least : (s : List ℕ) (n at : ℕ) → at ≤ past_fill s n at
unfolding past_fill
past_least s zero at = omega arith
past_least s (suc n) at = by_test (λ (p : ℕ). at ≤ p) (eqb (byte_at s at) prefix) (λ e. omega (arith, past_least s n (suc at))) (λ e. omega arith)

-- It stands at the position or behind it.
pub marker_least : (s : List ℕ) (at : ℕ) → at ≤ marker_at s at
unfolding marker_at
marker_least s at = past_least s (length s - at) at

-- ---- Agreement

module _ (a b : List ℕ) where
  -- one byte that is the same in both, whatever follows it; the two may look n and m bytes further
  pub past_step : (n m at : ℕ) (t : Bool) → eqb (byte_at a at) prefix ≡ t → byte_at a at ≡ byte_at b at
      → (t ≡ true → past_fill a n (suc at) ≡ past_fill b m (suc at)) → past_fill a (suc n) at ≡ past_fill b (suc m) at
  unfolding past_fill
  past_step n m at true e same later = rw (← same, e) (later refl)
  past_step n m at false e same later = rw (← same, e)

  past_same : (n at : ℕ) → ((i : ℕ) → at ≤ i → i ≤ past_fill a n at → i < at + n → byte_at a i ≡ byte_at b i) → past_fill a n at ≡ past_fill b n at
  unfolding past_fill
  past_same zero at h = refl
  past_same (suc n) at h =
      past_step n n at (eqb (byte_at a at) prefix) refl (h at (omega arith) (past_least a (suc n) at) (omega arith))
      (λ e. past_same n (suc at) (λ i j k l. h i (omega arith) (rw e k) (omega arith)))

  -- Images that agree on the FF bytes from a position on, and on the byte behind them if there is one, have the marker byte at the same place.
  pub marker_same : (at : ℕ) → length a ≡ length b → ((i : ℕ) → at ≤ i → i ≤ marker_at a at → i < length a → byte_at a i ≡ byte_at b i)
      → marker_at a at ≡ marker_at b at
  unfolding marker_at
  marker_same at e h = rw (← e) (past_same (length a - at) at (λ i j k l. h i j k (omega arith)))
