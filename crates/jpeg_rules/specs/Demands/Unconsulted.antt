-- A byte that is not consulted may be anything. One behind the Exif segment is such a byte, and one in the body of a segment that isn't E1.
use Rattle.std.specs.Prelude.{◌≡◌, refl, ℕ, false, List, [], ◌∷◌, length, set}
use Rattle.std.proofs.Common.{sym, length-set}
use Rattle.rules.specs.Cases.{line}
use Rattle.rules.specs.Demands.Unconsulted.{is_in, agree_set, not_handed}
use Rattle.jpeg_rules.specs.Doc.Block.{jpeg_answer}
use Rattle.jpeg_rules.specs.Doc.Consulted.{jpeg_consulted}
use Rattle.jpeg_rules.specs.Unfold.{request}
use Rattle.jpeg_rules.specs.Cases.{J, before}
use Rattle.jpeg_rules.specs.Demands.Three.{jpeg_quiet}

pub unconsulted : (img out : List ℕ) (k x : ℕ) → is_in k (jpeg_consulted img (length out)) ≡ false → jpeg_answer img out ≡ jpeg_answer (set img k x) out
unconsulted img out k x h = jpeg_quiet img (set img k x) (sym (length-set img k x)) out (agree_set img k x (jpeg_consulted img (length out)) h)

-- ---- Behind the Exif segment

J-not-in : (room : ℕ) → is_in 17 (jpeg_consulted J room) ≡ false
unfolding request J line is_in
J-not-in room = not_handed 17 room (12 ∷ 13 ∷ 14 ∷ 15 ∷ []) refl

-- Byte 17 of J, the marker behind the Exif segment, may be anything; answer and block stay, whatever the output buffer.
pub byte_17 : (x : ℕ) (out : List ℕ) → jpeg_answer J out ≡ jpeg_answer (set J 17 x) out
byte_17 x out = unconsulted J out 17 x (J-not-in (length out))

-- ---- In a segment that isn't E1

-- J with an E0 segment before its own, which has a body of one byte
unfoldable pub with_e0 : List ℕ
with_e0 = before 5 0xffe0_0003_aa

E0-not-in : (room : ℕ) → is_in 6 (jpeg_consulted with_e0 room) ≡ false
unfolding request with_e0 before J line is_in
E0-not-in room = not_handed 6 room (17 ∷ 18 ∷ 19 ∷ 20 ∷ []) refl

-- So may that byte.
pub byte_6 : (x : ℕ) (out : List ℕ) → jpeg_answer with_e0 out ≡ jpeg_answer (set with_e0 6 x) out
byte_6 x out = unconsulted with_e0 out 6 x (E0-not-in (length out))
