-- Bytes laid over an output, as many as there is room for (`sets` of the kit): what a copy over several parts follows.
use Rattle.std.specs.Prelude.{◌≡◌, refl, ℕ, zero, suc, ◌+◌, ◌-◌, ◌≤◌, List, [], ◌∷◌, ◌++◌, length, take, set}
use Rattle.std.proofs.Common.{sym, ap, ◌∙◌, arith, add-zero, take_all}
use Rattle.std.proofs.Math.Nat.{zero-sub, sub-zero}
use Rattle.std.proofs.Math.ListN.{drop}
use Rattle.std.proofs.Math.Seq.{take-nil, drop-nil, set_out}
use Rattle.std.proofs.lemmas.List.Edits.{sets}
use Rattle.rules.specs.Doc.Outcomes.{Outcome}
use Rattle.rules.specs.Doc.Lists.{each}
use Rattle.rules.specs.Doc.Bytes.{number_at, Span}
use Rattle.rules.specs.Doc.Iloc.{Extent}
use Rattle.rules.specs.OverBytes.{part_of, gathered}

-- none are, where there is no room
pub over_full : (out : List ℕ) (at : ℕ) (bs : List ℕ) → length out ≤ at → sets out at bs ≡ out
over_full out at [] h = refl
over_full out at (b ∷ bs) h = rw (set_out out at b h) (over_full out (suc at) bs (omega arith))

-- two parts, one behind the other
pub over_append : (a b out : List ℕ) (at : ℕ) → sets out at (a ++ b) ≡ sets (sets out at a) (at + length a) b
over_append [] b out at = rw (add-zero at)
over_append (x ∷ a) b out at =
    let e : suc at + length a ≡ at + suc (length a) = omega arith in
    rw (← e) (over_append a b (set out at x) (suc at))

over_behind : (x : ℕ) (out : List ℕ) (at : ℕ) (bs : List ℕ) → sets (x ∷ out) (suc at) bs ≡ x ∷ sets out at bs
over_behind x out at [] = refl
over_behind x out at (b ∷ bs) = over_behind x (set out at b) (suc at) bs

-- from the front on
pub over_front : (bs out : List ℕ) → sets out 0 bs ≡ take (length out) bs ++ drop (length bs) out
over_front [] out = rw (take-nil (length out))
over_front (b ∷ bs) [] = over_full [] 0 (b ∷ bs) (omega arith)
over_front (b ∷ bs) (o ∷ out) = over_behind b out 0 bs ∙ ap (λ (l : List ℕ). b ∷ l) (over_front bs out)

-- the same where there is room for all
pub over_room : (bs out : List ℕ) → length bs ≤ length out → sets out 0 bs ≡ bs ++ drop (length bs) out
over_room bs out h = rw (take_all (length out) bs h) at (over_front bs out)

-- what is skipped of two parts: of the second, what the first was too short for
drop_append : (n : ℕ) (a b : List ℕ) → drop n (a ++ b) ≡ drop n a ++ drop (n - length a) b
drop_append zero [] b = refl
drop_append zero (x ∷ a) b = rw (zero-sub (length (x ∷ a)))
drop_append (suc n) [] b = rw (sub-zero (suc n))
drop_append (suc n) (x ∷ a) b =
    let e : suc n - suc (length a) ≡ n - length a = omega arith in
    rw e (drop_append n a b)

-- the number of the first four bytes, where they are laid over four of 0
pub first_four_is : (s : List ℕ) → number_at (sets (0 ∷ 0 ∷ 0 ∷ 0 ∷ []) 0 s) 0 4 ≡ number_at s 0 4
unfolding number_at
first_four_is [] = refl
first_four_is (a ∷ []) = refl
first_four_is (a ∷ b ∷ []) = refl
first_four_is (a ∷ b ∷ c ∷ []) = refl
first_four_is (a ∷ b ∷ c ∷ d ∷ s) = rw (over_full (a ∷ b ∷ c ∷ d ∷ []) 4 s (omega arith))

-- in a pass over extents that copies: `after` is the output after all, and those from here on are still to be laid over it
module _ (place : Extent → Outcome Span) (s : List ℕ) (xs : List Extent) (at left : ℕ) (out : List ℕ) {after : List ℕ}
    (inv : sets out at (drop left (gathered place s xs)) ≡ after) where
  -- where there is no room left, what is still to be laid doesn't count
  pub gather_full : length out ≤ at → out ≡ after
  gather_full h = sym (over_full out at (drop left (gathered place s xs)) h) ∙ inv

  pub gather_done : xs ≡ [] → out ≡ after
  unfolding gathered each
  gather_done e = rw (e, drop-nil left) at inv

  -- the next extent's bytes, what is left to skip after them, and the output with them
  pub gather_next : {x : Extent} {ys : List Extent} → xs ≡ x ∷ ys → {bytes : List ℕ} → bytes ≡ part_of s (place x)
      → {more : ℕ} → more ≡ left - length bytes
      → (at' : ℕ) (out' : List ℕ) → ((rest : List ℕ) → sets out' at' rest ≡ sets out at (drop left bytes ++ rest))
      → sets out' at' (drop more (gathered place s ys)) ≡ after
  unfolding gathered each
  gather_next {x} {ys} e {bytes} b {more} m at' out' w =
      let later = gathered place s ys in
      let d : drop left (gathered place s xs) ≡ drop left bytes ++ drop more later = rw (e, ← b, m) (drop_append left bytes later) in
      w (drop more later) ∙ rw d at inv
