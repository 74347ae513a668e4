-- The line of a case: the answer's number and length, a word with 1 or 0, and the whole output after the call.
use Rattle.std.specs.Prelude.{◌≡◌, refl, ℕ, Bool, true, false, List, [], ◌∷◌, ◌++◌, if◌then◌else◌}
use Rattle.rules.specs.Doc.Text.{ascii, digit, hex, decimal_to, decimal}
use Rattle.rules.specs.Doc.Listing.{newline}
use Rattle.rules.specs.Doc.Answers.{Answer}
use Rattle.answer_numbers.specs.Numbers.{numbers_text}

-- two digits a byte
unfoldable pub hexes : List ℕ → List ℕ
hexes [] = []
hexes (b ∷ bs) = hex 2 b ++ hexes bs

-- An output without a byte is `-`.
unfoldable pub out_text : List ℕ → List ℕ
out_text [] = ascii "-"
out_text (b ∷ bs) = hexes (b ∷ bs)

-- whether the image is of the kind that the word asks for
unfoldable pub kind_text : List ℕ → Bool → List ℕ
kind_text word holds = word ++ (if holds then ascii "1 out=" else ascii "0 out=")

unfoldable pub answer_text : Answer → List ℕ → Bool → List ℕ
answer_text a word holds = numbers_text a.number a.length ++ kind_text word holds ++ out_text a.output ++ newline

-- Two of them, computed.
done : answer_text (record { number = 0; length = 4; output = 0x4d ∷ 0x4d ∷ 0x00 ∷ 0x2a ∷ 0xa5 ∷ [] }) (ascii " heif=") true
    ≡ ascii "answer=0 length=4 heif=1 out=4d4d002aa5" ++ newline
unfolding answer_text numbers_text kind_text out_text hexes decimal decimal_to digit hex
done = refl

no_jpeg : answer_text (record { number = 31; length = 0; output = [] }) (ascii " jpeg=") false ≡ ascii "answer=31 length=0 jpeg=0 out=-" ++ newline
unfolding answer_text numbers_text kind_text out_text hexes decimal decimal_to digit hex
no_jpeg = refl
