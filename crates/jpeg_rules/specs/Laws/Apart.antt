-- What starts FF D8 is no HEIF image, unless it is 4,292,345,856 bytes long or longer. That is 0xffd80000: its first four bytes would be the size of a
-- box, and `is_heif` wants every box whole.
use Rattle.std.specs.Prelude.{◌≡◌, refl, ℕ, ◌+◌, ◌*◌, ◌≤◌, ◌<◌, Bool, true, false, ◌&&◌, List, length, leb, eqb, if◌then◌else◌}
use Rattle.std.proofs.Common.{ap, ◌∙◌, arith, leb-true, eqb-true}
use Rattle.rules.specs.Doc.Outcomes.{Outcome, fine, refused, ◌>>=◌, is_fine}
use Rattle.rules.specs.Doc.Bytes.{number_at}
use Rattle.rules.specs.Doc.Headers.{Box, whole, child_at}
use Rattle.rules.specs.Doc.Levels.{tested}
use Rattle.rules.specs.Doc.Heif.{heif_level, is_heif}
use Rattle.rules.specs.Laws.Headers.{passed, whole_fits}
use Rattle.rules.specs.Laws.Decision.{sized_end_is}
use Rattle.rules.specs.Laws.Fold.{stop_from, stop_next}
use Rattle.jpeg_rules.specs.Doc.Block.{is_jpeg}

-- the size that the first box would have
front_size : (s : List ℕ) → number_at s 0 4 ≡ number_at s 0 2 * 65536 + number_at s 2 2
unfolding number_at
front_size s = omega arith

started : (s : List ℕ) → is_jpeg s ≡ true → (2 ≤ length s) × (number_at s 0 2 ≡ 0xffd8)
unfolding is_jpeg
started s e = go (leb 2 (length s)) (eqb (number_at s 0 2) 0xffd8) refl refl e
  where
    go : (p q : Bool) → leb 2 (length s) ≡ p → eqb (number_at s 0 2) 0xffd8 ≡ q → (p && q) ≡ true → (2 ≤ length s) × (number_at s 0 2 ≡ 0xffd8)
    go true true f g e = (leb-true 2 (length s) f, eqb-true (number_at s 0 2) 0xffd8 g)
    go true false f g e = absurd (let z : ◌≡◌ {A = ℕ} 0 1 = cc in omega arith)
    go false q f g e = absurd (let z : ◌≡◌ {A = ℕ} 0 1 = cc in omega arith)

-- a box of that size is longer than the image
no_first : (s : List ℕ) → is_jpeg s ≡ true → length s < 0xffd80000 → (b : Box) → fine b ≡ child_at s 0 → ⊥
unfolding child_at
no_first s e h b r =
    let (l, f) = started s e in
    let (p, q) = passed 3 (whole 3 (length s)) s 0 r in
    let size = sized_end_is 3 s 0 p (omega (arith, front_size s)) in
    omega (arith, front_size s, whole_fits 3 (length s) b q)

-- where the first box isn't whole, it is no HEIF image
first_whole : (s : List ℕ) → 0 < length s → ((b : Box) → fine b ≡ child_at s 0 → ⊥) → is_heif s ≡ false
unfolding is_heif heif_level stop_from child_at is_fine
first_whole s h none = ap is_fine (stop_next heif_level s 0 h) ∙ go (child_at s 0) refl
  where
    go : (o : Outcome Box) → o ≡ child_at s 0
        → is_fine (o >>= λ b. tested heif_level s b >>= λ u. if heif_level.ends b.kind then fine b else stop_from heif_level s b.body.to) ≡ false
    go (fine b) e = absurd (none b e)
    go (refused n) e = refl

pub jpeg_no_heif : (img : List ℕ) → is_jpeg img ≡ true → length img < 0xffd80000 → is_heif img ≡ false
jpeg_no_heif img e h =
    let (l, f) = started img e in
    first_whole img (omega arith) (no_first img e h)
