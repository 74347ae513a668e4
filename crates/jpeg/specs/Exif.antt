-- The six bytes that a body starts with if it holds a block.
use Rattle.std.specs.Prelude.{◌≡◌, refl, Bool, true, false, ◌&&◌, List, ℕ, ◌≤◌, length, leb, eqb}
use Rattle.std.proofs.Common.{ap}
use borrow.Author.Tests.{ne_eqb, leb-true}
use Rattle.rules.specs.Doc.Bytes.{number_at, part, size_of}
use Rattle.rules.specs.Laws.Numbers.{number_part, part_length}
use Rattle.jpeg_rules.specs.Doc.Segments.{Segment, body, exif_name, APP1, is_exif}

-- Request three's `is_exif`, of a marker and the bytes of a body.
unfoldable pub exif_body : ℕ → List ℕ → Bool
exif_body marker s = eqb marker APP1 && (leb 6 (length s) && eqb (number_at s 0 6) exif_name)

pub exif_other : (marker : ℕ) (s : List ℕ) → (marker ≡ APP1 → ⊥) → false ≡ exif_body marker s
unfolding exif_body
exif_other marker s ne = rw (ne_eqb marker APP1 ne)

-- The definition asks the same of the image, where the body lies in it.
pub exif_body_is : (s : List ℕ) (x : Segment) → (body x).to ≤ length s → is_exif s x ≡ exif_body x.marker (part s (body x).from (size_of (body x)))
unfolding is_exif exif_body
exif_body_is s x h = rw (part_length s (body x) h) (ap (λ (t : Bool). eqb x.marker APP1 && t) (go (leb 6 (size_of (body x))) refl))
  where
    go : (t : Bool) → leb 6 (size_of (body x)) ≡ t
        → (t && eqb (number_at s (body x).from 6) exif_name) ≡ (t && eqb (number_at (part s (body x).from (size_of (body x))) 0 6) exif_name)
    go true e = rw (number_part s (body x).from (size_of (body x)) 6 (leb-true _ _ e))
    go false e = refl
