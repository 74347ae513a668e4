-- What it is to copy bytes to a buffer from a place on, as many as there is room for; and that parts copied one behind the other are one copy.
use Rattle.std.specs.Prelude.{[], ◌≡◌, refl, ◌⊎◌, min, Bool, true, false, List, ◌++◌, ℕ, ◌+◌, ◌-◌, ◌≤◌, leb, length, take, drop}
use Rattle.std.proofs.Common.{sym, ap, ◌∙◌, arith, inl, inr, length-take, length-append, length-take-le, take_all, take-append-drop, append_assoc, drop-drop, leb-true, leb-false}
use Rattle.std.proofs.Math.Seq.{length-sets, take-nil}
use Rattle.std.proofs.Math.Decide.{dec_le}
use Rattle.std.proofs.lemmas.List.Edits.{sets, sets-eq}
use borrow.Rule.Slice.PartMut.{put_mid}
use Rattle.rules.specs.Laws.Over.{over_full, over_append}

-- `before` and `after` are the buffer, `end` is the place behind the last byte that there was room for. The others `sets` leaves out.
pub record Copied (bytes : List ℕ) (at : ℕ) (before : List ℕ) (end : ℕ) (after : List ℕ) : Type 0 where
  pub place : end ≡ at + length (take (length before - at) bytes)
  pub buffer : after ≡ sets before at bytes

-- ---- One copy

pub copied_none : (at : ℕ) (out : List ℕ) → Copied [] at out at out
copied_none at out = record { place = rw (take-nil (length out - at)) (omega arith); buffer = refl }

pub copied_full : (bytes : List ℕ) (at : ℕ) (out : List ℕ) → length out ≤ at → Copied bytes at out at out
copied_full bytes at out h =
    let none : length out - at ≡ 0 = omega arith in
    record { place = rw none (omega arith); buffer = sym (over_full out at bytes h) }

-- what is laid over the output is the first n bytes, where n are as many as there is room for
over_first : (bytes : List ℕ) (at n : ℕ) (out : List ℕ) → (n ≡ length bytes) ⊎ (length out ≤ at + n) → n ≤ length bytes
    → sets out at (take n bytes) ≡ sets out at bytes
over_first bytes at n out (inl e) h = ap (sets out at) (take_all n bytes (omega arith))
over_first bytes at n out (inr full) h =
    let k : length (take n bytes) ≡ n = length-take-le n bytes h in
    let l = length-sets out at (take n bytes) in
    sym (over_full (sets out at (take n bytes)) (at + length (take n bytes)) (drop n bytes) (omega arith))
    ∙ sym (over_append (take n bytes) (drop n bytes) out at)
    ∙ ap (sets out at) (take-append-drop n bytes)

pub copied_room : (bytes : List ℕ) (at n : ℕ) (out after : List ℕ) → n ≡ min (length bytes) (length out - at) → at ≤ length out
    → after ≡ put_mid at n out (take n bytes) → Copied bytes at out (at + n) after
copied_room bytes at n out after e h a = elim (dec_le (length bytes) (length out - at)) [
  | yes k ↦ go (inl (omega (arith, min))) (omega (arith, min)) (omega (arith, min))
  | no k ↦ go (inr (omega (arith, min))) (omega (arith, min)) (omega (arith, min))
]
  where
    go : (n ≡ length bytes) ⊎ (length out ≤ at + n) → n ≤ length bytes → at + n ≤ length out → Copied bytes at out (at + n) after
    go o i r =
        let k : length (take n bytes) ≡ n = length-take-le n bytes i in
        record {
          place = rw (length-take (length out - at) bytes) (omega (arith, min));
          buffer = rw drop-drop at a ∙ sym (append_assoc (take at out) (take n bytes) (drop (at + n) out)) ∙ sym (rw k at (sets-eq (take n bytes) out at (omega arith))) ∙ over_first bytes at n out o i;
        }

-- ---- Several parts

-- whatever follows is copied behind it
pub copied_then : {bytes : List ℕ} {at end : ℕ} {before after : List ℕ} → Copied bytes at before end after
    → (rest : List ℕ) → sets after end rest ≡ sets before at (bytes ++ rest)
copied_then {bytes} {at} {end} {before} {after} c rest =
    rw c.buffer (go (leb (length bytes) (length before - at)) refl) ∙ sym (over_append bytes rest before at)
  where
    go : (t : Bool) → leb (length bytes) (length before - at) ≡ t → sets (sets before at bytes) end rest ≡ sets (sets before at bytes) (at + length bytes) rest
    go true e = rw (c.place, take_all (length before - at) bytes (leb-true _ _ e))
    go false e =
        let more = leb-false (length bytes) (length before - at) e in
        let n = length-sets before at bytes in
        let k = length-take-le (length before - at) bytes (omega (arith, more)) in
        over_full (sets before at bytes) end rest (omega (arith, c.place))
        ∙ sym (over_full (sets before at bytes) (at + length bytes) rest (omega (arith, more)))

-- two parts, the second from where the first ended, are one
pub copied_append : {a b : List ℕ} {at m end : ℕ} {before between after : List ℕ} → Copied a at before m between → Copied b m between end after
    → Copied (a ++ b) at before end after
copied_append {a} {b} {at} {m} {end} {before} {between} p q =
    let n = rw (← p.buffer) at (length-sets before at a) in
    let first = rw (length-take (length before - at) a) at p.place in
    let second = rw (n, length-take (length before - m) b) at q.place in
    record {
      place = rw (length-take (length before - at) (a ++ b), length-append a b) (omega (arith, first, second));
      buffer = q.buffer ∙ copied_then p b;
    }
