-- A byte that is not consulted may be anything; byte 111 of H is one.
use Rattle.std.specs.Prelude.{◌≡◌, refl, ℕ, Bool, true, false, ◌||◌, List, [], ◌∷◌, length, set, leb, eqb, if◌then◌else◌}
use Rattle.std.proofs.Common.{sym, length-set, get_or-set_other}
use Rattle.std.proofs.lemmas.Bool.{eqb-false}
use Rattle.rules.specs.Doc.Answers.{handed, answer}
use Rattle.rules.specs.Doc.Consulted.{consulted, Agree}
use Rattle.rules.specs.Unfold.{document}
use Rattle.rules.specs.Cases.{H, line}
use Rattle.rules.specs.Demands.Three.{quiet}

unfoldable pub is_in : ℕ → List ℕ → Bool
is_in k [] = false
is_in k (i ∷ ps) = eqb i k || is_in k ps

neither : (p q : Bool) → (p || q) ≡ false → (p ≡ false) × (q ≡ false)
neither true q h = (h, cc)
neither false q h = (refl, h)

-- a change at a position that is not among some others
pub agree_set : (s : List ℕ) (k x : ℕ) (ps : List ℕ) → is_in k ps ≡ false → Agree s (set s k x) ps
unfolding is_in
agree_set s k x [] h = tt
agree_set s k x (i ∷ ps) h =
    let n = neither (eqb i k) (is_in k ps) h in
    (sym (get_or-set_other s k i x 0 (eqb-false i k n.0)), agree_set s k x ps n.1)

pub unconsulted : (img out : List ℕ) (k x : ℕ) → is_in k (consulted img (length out)) ≡ false → answer img out ≡ answer (set img k x) out
unconsulted img out k x h = quiet img (set img k x) out (sym (length-set img k x)) (agree_set img k x (consulted img (length out)) h)

-- a position that is not in the block is not handed out with it
pub not_handed : (k room : ℕ) (ps : List ℕ) → is_in k ps ≡ false → is_in k (handed room ps) ≡ false
unfolding is_in handed
not_handed k room ps h = go (leb (length ps) room)
  where
    go : (t : Bool) → is_in k (if t then ps else []) ≡ false
    go true = h
    go false = refl

-- ---- H

H-not-in : (room : ℕ) → is_in 111 (consulted H room) ≡ false
unfolding document H line is_in
H-not-in room = not_handed 111 room (112 ∷ 113 ∷ 114 ∷ 115 ∷ []) refl

-- Byte 111 of H may be anything; answer and block stay, whatever the output buffer.
pub byte_111 : (x : ℕ) (out : List ℕ) → answer H out ≡ answer (set H 111 x) out
byte_111 x out = unconsulted H out 111 x (H-not-in (length out))
