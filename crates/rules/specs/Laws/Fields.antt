-- What a number that was read shows: it fits, and stands there.
use Rattle.std.specs.Prelude.{◌≡◌, refl, ◌⊎◌, Bool, true, false, ◌||◌, List, ℕ, ◌+◌, ◌≤◌, ◌<◌, length, leb, eqb, if◌then◌else◌}
use Rattle.std.proofs.Common.{inl, inr, arith, leb-true, eqb-true}
use Rattle.rules.specs.Doc.Outcomes.{fine, refused, require}
use Rattle.rules.specs.Doc.Bytes.{number_at, field, sized}
use Rattle.rules.specs.Laws.Rows.{apart, bind_fine, required}

-- v is the number of n bytes at a position, and they are there
pub record Stands (s : List ℕ) (at n v : ℕ) : Type 0 where
  pub inside : at + n ≤ length s
  pub is : v ≡ number_at s at n

pub field_stands : (s : List ℕ) (at n : ℕ) {v : ℕ} → fine v ≡ field s at n → Stands s at n v
unfolding field
field_stands s at n {v} = go (leb (at + n) (length s)) refl
  where
    go : (t : Bool) → leb (at + n) (length s) ≡ t → fine v ≡ (if t then fine (number_at s at n) else refused 3) → Stands s at n v
    go true h e = record { inside = leb-true (at + n) (length s) h; is = cc }
    go false h e = absurd (apart e)

-- a size that a number of its own may have
abbrev pub Is048 : ℕ → Type 0
Is048 w = (w ≡ 0) ⊎ ((w ≡ 4) ⊎ (w ≡ 8))

pub small048 : {w : ℕ} → Is048 w → w < 16
small048 (inl e) = omega arith
small048 (inr (inl e)) = omega arith
small048 (inr (inr e)) = omega arith

pub must_be_8 : {w : ℕ} → Is048 w → (w ≡ 0 → ⊥) → (w ≡ 4 → ⊥) → w ≡ 8
must_be_8 (inl e) a b = absurd (a e)
must_be_8 (inr (inl e)) a b = absurd (b e)
must_be_8 (inr (inr e)) a b = e

is048 : (w : ℕ) → (eqb w 0 || eqb w 4 || eqb w 8) ≡ true → Is048 w
is048 w = go (eqb w 0) (eqb w 4) (eqb w 8) refl refl refl
  where
    go : (a b c : Bool) → eqb w 0 ≡ a → eqb w 4 ≡ b → eqb w 8 ≡ c → (a || b || c) ≡ true → Is048 w
    go true b c p q r e = inl (eqb-true w 0 p)
    go false true c p q r e = inr (inl (eqb-true w 4 q))
    go false false c p q r e = inr (inr (eqb-true w 8 (rw r e)))

pub sized_field : (s : List ℕ) (at n : ℕ) {w : ℕ} → Is048 w → sized s at w n ≡ field s at w
unfolding sized
sized_field s at n (inl e) = rw e
sized_field s at n (inr (inl e)) = rw e
sized_field s at n (inr (inr e)) = rw e

pub sized_stands : (s : List ℕ) (at w n : ℕ) {v : ℕ} → fine v ≡ sized s at w n → Is048 w × Stands s at w v
unfolding sized
sized_stands s at w n e =
    let (u, p, q) = bind_fine (require (eqb w 0 || eqb w 4 || eqb w 8) n) (λ u. field s at w) e in
    (is048 w (required (eqb w 0 || eqb w 4 || eqb w 8) n p), field_stands s at w q)
