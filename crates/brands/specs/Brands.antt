-- Brands one after another, and boxes up to the first `ftyp`: what the two loops follow.
use Rattle.std.specs.Prelude.{◌≡◌, Bool, ◌||◌, List, [], ◌∷◌, ◌++◌, length, drop, if◌then◌else◌}
use Rattle.std.specs.List.{list_any, slice_range}
use Rattle.std.specs.Slice.Iter.{chunks_exact_size, chunks_exact_rest, chunks_exact_steps}
use Rattle.std.specs.declared.slice.ChunksExact.{ChunksExact}
use Rattle.std.proofs.lemmas.Iterator.{YieldsList}
use Rattle.std.proofs.lemmas.Iterator.Splits.{YieldsList-from_shown_while}
use Rattle.std.proofs.Math.ListN.{get_or-append}
use Rattle.std.proofs.Math.Seq.{drop-append_seam}
use Rattle.std.proofs.Math.Path.{refl, ap}
use Rattle.std.proofs.Common.{sym, ◌∙◌, add_assoc, length-append, length-drop, take_all}
use Rattle.std.proofs.Math.Bool.{true, false}
use Prim.Native.Nat.{ℕ, zero, suc, ◌+◌, ◌-◌, ◌/◌, ◌≤◌, ◌<◌}
use native.Mathlib.Omega.{arith}
use borrow.Author.Tests.{le-leb, lt-leb, eq-eqb, ne_eqb}
use Rattle.rules.specs.Doc.Outcomes.{Outcome, fine, refused, ◌>>=◌, require, is_fine}
use Rattle.rules.specs.Doc.Lists.{any}
use Rattle.rules.specs.Doc.Bytes.{number_at, part, bytes_in}
use Rattle.rules.specs.Doc.Headers.{ftyp, Box, is, child_at}
use Rattle.rules.specs.Doc.Levels.{tested}
use Rattle.rules.specs.Doc.Ftyp.{known, brands_from, brand_test}
use Rattle.rules.specs.Doc.Heif.{heif_level, is_heif}
use Rattle.rules.specs.Laws.Moved.{number_moved}
use Rattle.rules.specs.Laws.Agreement.{number_same}
use Rattle.rules.specs.Laws.Fold.{stop_from, stop_next, stop_done}
use Rattle.boxes.specs.Loops.{WholeBox}

-- ---- Brands

-- the brands in some bytes; 1 to 3 bytes at the end are ignored
unfoldable pub brands : List ℕ → List ℕ
brands s = brands_from s 0 (length s / 4)

brands_behind : (k : ℕ) (s : List ℕ) (at n : ℕ) → brands_from s (k + at) n ≡ brands_from (drop k s) at n
unfolding brands_from
brands_behind k s at zero = refl
brands_behind k s at (suc n) = rw (number_moved k s at 4, add_assoc, brands_behind k s (at + 4) n)

-- four bytes, and what follows them
pub brands_next : (x rest : List ℕ) → length x ≡ 4 → brands (x ++ rest) ≡ number_at x 0 4 ∷ brands rest
unfolding brands brands_from
brands_next x rest e =
    let k : length (x ++ rest) / 4 ≡ suc (length rest / 4) = omega (arith, length-append x rest) in
    let first : number_at (x ++ rest) 0 4 ≡ number_at x 0 4 = number_same (x ++ rest) x 0 4 0 4 (λ i h l. get_or-append x rest 0 i (omega arith)) (omega arith) (omega arith) in
    let behind : drop 4 (x ++ rest) ≡ rest = rw e at (drop-append_seam x rest) in
    rw (k, first, brands_behind 4 (x ++ rest) 0 (length rest / 4), behind)

pub brands_none : (s : List ℕ) → length s < 4 → brands s ≡ []
unfolding brands brands_from
brands_none s h =
    let k : length s / 4 ≡ 0 = omega arith in
    rw k

-- four bytes at a time, they are the brands
pub brands_come : (s : ChunksExact ℕ) → chunks_exact_size s ≡ 4 → YieldsList chunks_exact_steps (λ x. number_at x.now 0 4) s (brands (chunks_exact_rest s))
brands_come s e =
    YieldsList-from_shown_while chunks_exact_steps (λ x. number_at x.now 0 4) (λ t. brands (chunks_exact_rest t)) (λ t. chunks_exact_size t ≡ 4)
    (λ t u h k. ap length (brands_none (chunks_exact_rest t) (omega arith)))
    (λ t x u h k. (k.0 ∙ h, ap brands k.1.0 ∙ brands_next x.now (chunks_exact_rest u) (k.1.1 ∙ h)))
    s e

-- whether one of the brands in some bytes is known
unfoldable pub known_in : List ℕ → Bool
known_in s = any known (brands s)

known_any : (xs : List ℕ) → list_any known xs ≡ any known xs
unfolding any
known_any [] = refl
known_any (x ∷ xs) = ap (λ b. known x || b) (known_any xs)

-- whether one of the brands from a position on is known; 1 to 3 bytes at the end are ignored
unfoldable pub known_from : List ℕ → ℕ → Bool
known_from body at = any known (brands_from body at ((length body - at) / 4))

-- in a loop over brands: `yes` is the answer of all brands, and those from `at` on decide it
module _ (body : List ℕ) (at : ℕ) {yes : Bool} (inv : known_from body at ≡ yes) where
  pub brand_none : length body - at < 4 → false ≡ yes
  unfolding known_from any brands_from
  brand_none h =
      let k : (length body - at) / 4 ≡ 0 = omega arith in
      rw k at inv

  -- the brand at the position, and whether it is known
  module _ (h : 4 ≤ length body - at) {brand : ℕ} {q : Bool} (e : brand ≡ number_at body at 4) (f : q ≡ known brand) where
    brand_first : (q || known_from body (at + 4)) ≡ yes
    unfolding known_from any brands_from
    brand_first =
        let k : (length body - at) / 4 ≡ suc ((length body - (at + 4)) / 4) = omega arith in
        rw (k, ← e, ← f) at inv

    pub brand_known : q ≡ true → true ≡ yes
    brand_known g = rw g at brand_first

    pub brand_other : q ≡ false → known_from body (at + 4) ≡ yes
    brand_other g = rw g at brand_first

-- the compatible brands of an `ftyp`
module _ (body : List ℕ) where
  pub ftyp_small : length body < 8 → refused 3 ≡ brand_test body
  unfolding brand_test
  ftyp_small h = rw (lt-leb 8 (length body) h)

  pub ftyp_brands : {yes : Bool} → 8 ≤ length body → yes ≡ known_from body 8 → require yes 7 ≡ brand_test body
  unfolding brand_test known_from
  ftyp_brands h e = rw (le-leb 8 (length body) h, e)

  module _ (h : 8 ≤ length body) {compatible : List ℕ} (c : compatible ≡ slice_range body 8 (length body)) where
    behind : compatible ≡ drop 8 body
    behind = c ∙ take_all (length body - 8) (drop 8 body) (omega (arith, length-drop 8 body))

    pub ftyp_known : require (known_in compatible) 7 ≡ brand_test body
    unfolding brand_test known_in brands
    ftyp_known = rw (behind, le-leb 8 (length body) h, length-drop 8 body, ← brands_behind 8 body 0 ((length body - 8) / 4))

    pub ftyp_any : {came : List ℕ} {yes : Bool} → came ≡ compatible → yes ≡ list_any known (brands came) → require yes 7 ≡ brand_test body
    unfolding known_in
    ftyp_any e f = rw (f, known_any _, e) ftyp_known

-- ---- Boxes, up to the first `ftyp`

-- the answer from a position on
unfoldable pub heif_from : List ℕ → ℕ → Bool
heif_from s at = is_fine (stop_from heif_level s at)

-- the same, once the box there is read
unfoldable heif_of : List ℕ → Outcome Box → Bool
heif_of s (refused n) = false
heif_of s (fine b) = if is ftyp b then is_fine (brand_test (bytes_in s b.body)) else heif_from s b.body.to

module _ (s : List ℕ) where
  box_next : (b : Box) (t : Bool) (test : Outcome (Unit {0})) (rest : Outcome Box)
      → is_fine ((if t then test else fine tt) >>= λ u. if t then fine b else rest) ≡ (if t then is_fine test else is_fine rest)
  unfolding is_fine
  box_next b true (fine u) rest = refl
  box_next b true (refused n) rest = refl
  box_next b false test rest = refl

  after_box : (o : Outcome Box)
      → is_fine (o >>= λ b. (if is ftyp b then brand_test (bytes_in s b.body) else fine tt) >>= λ u. if is ftyp b then fine b else stop_from heif_level s b.body.to) ≡ heif_of s o
  unfolding heif_of heif_from is_fine
  after_box (fine b) = box_next b (is ftyp b) (brand_test (bytes_in s b.body)) (stop_from heif_level s b.body.to)
  after_box (refused n) = refl

  heif_next : (at : ℕ) → at < length s → heif_from s at ≡ heif_of s (child_at s at)
  unfolding heif_from heif_level tested child_at
  heif_next at k = ap is_fine (stop_next heif_level s at k) ∙ after_box (child_at s at)

fine_require : (t : Bool) (n : ℕ) → t ≡ is_fine (require t n)
unfolding is_fine
fine_require true n = refl
fine_require false n = refl

pub heif_start : (s : List ℕ) → heif_from s 0 ≡ is_heif s
unfolding heif_from stop_from is_heif
heif_start s = refl

-- in the loop over boxes: those from `at` on decide the answer
module _ (s : List ℕ) (at : ℕ) (inv : heif_from s at ≡ is_heif s) where
  pub heif_done : length s ≤ at → false ≡ is_heif s
  unfolding heif_from is_fine
  heif_done k = ap is_fine (sym (stop_done heif_level s at k)) ∙ inv

  module _ (k : at < length s) where
    pub heif_refused : {n : ℕ} → refused n ≡ child_at s at → false ≡ is_heif s
    unfolding heif_of
    heif_refused e = rw (heif_next s at k, ← e) at inv

    module _ {kind from to : ℕ} (b : WholeBox s at kind from to) where
      pub heif_other : (kind ≡ ftyp → ⊥) → heif_from s to ≡ is_heif s
      unfolding heif_of
      heif_other o = rw (heif_next s at k, ← b.is, ne_eqb kind ftyp o) at inv

      module _ (f : kind ≡ ftyp) where
        abbrev body : List ℕ
        body = part s from (to - from)

        heif_ftyp : is_fine (brand_test body) ≡ is_heif s
        unfolding heif_of
        heif_ftyp = rw (heif_next s at k, ← b.is, eq-eqb kind ftyp f, b.bytes) at inv

        pub heif_small : length body < 8 → false ≡ is_heif s
        unfolding is_fine
        heif_small h = ap is_fine (ftyp_small body h) ∙ heif_ftyp

        pub heif_brands : 8 ≤ length body → known_from body 8 ≡ is_heif s
        heif_brands h = fine_require (known_from body 8) 7 ∙ ap is_fine (ftyp_brands body h refl) ∙ heif_ftyp
