-- Step 9 for one extent, case by case.
use Rattle.std.specs.Prelude.{◌≡◌, ℕ, ◌+◌, ◌^◌, ◌≤◌, ◌<◌, Bool, true, false, ◌&&◌, leb, ltb, eqb, if◌then◌else◌}
use Rattle.std.proofs.Common.{sym, arith}
use borrow.Author.Tests.{lt-ltb, le-ltb, le-leb, lt-leb, eq-eqb, ne_eqb, leb-true}
use Rattle.rules.specs.Doc.Outcomes.{Outcome, fine, refused, require}
use Rattle.rules.specs.Doc.Bytes.{Span}
use Rattle.rules.specs.Doc.Iloc.{Extent}
use Rattle.rules.specs.Doc.Join.{reach, in_image, in_idat, lies}
use Rattle.rules.specs.Laws.Rows.{bind_fine, required}

module _ (n base : ℕ) (x : Extent) where
  -- ---- Where it begins, and which of the two decides

  pub place_18 : (method : ℕ) → 2 ^ 64 ≤ base + x.offset → refused 18 ≡ lies method n base x
  unfolding lies
  place_18 method h = rw (le-ltb (base + x.offset) (2 ^ 64) h)

  module _ (method : ℕ) {o : Outcome Span} (h : base + x.offset < 2 ^ 64) where
    pub place_image : method ≡ 0 → o ≡ in_image n base x → o ≡ lies method n base x
    unfolding lies
    place_image m e = rw (lt-ltb (base + x.offset) (2 ^ 64) h, eq-eqb method 0 m, e)

    pub place_idat : (method ≡ 0 → ⊥) → o ≡ in_idat n base x → o ≡ lies method n base x
    unfolding lies
    place_idat m e = rw (lt-ltb (base + x.offset) (2 ^ 64) h, ne_eqb method 0 m, e)

  -- ---- In the image

  pub image_open : x.length ≡ 0 → fine (record { from = base + x.offset; to = n }) ≡ in_image n base x
  unfolding in_image reach
  image_open z = rw (eq-eqb x.length 0 z, le-leb n n (omega arith))

  module _ (z : x.length ≡ 0 → ⊥) where
    pub image_2 : n < base + x.offset + x.length → refused 2 ≡ in_image n base x
    unfolding in_image reach
    image_2 k = rw (ne_eqb x.length 0 z, lt-leb (base + x.offset + x.length) n k)

    pub image_part : base + x.offset + x.length ≤ n
        → fine (record { from = base + x.offset; to = base + x.offset + x.length }) ≡ in_image n base x
    unfolding in_image reach
    image_part k = rw (ne_eqb x.length 0 z, le-leb (base + x.offset + x.length) n k)

  -- ---- In `idat`

  abbrev end : ℕ
  end = base + x.offset + x.length

  pub idat_19 : 2 ^ 64 ≤ end → refused 19 ≡ in_idat n base x
  unfolding in_idat
  idat_19 h = rw (le-ltb end (2 ^ 64) h)

  module _ (h : end < 2 ^ 64) where
    pub idat_past : n < base + x.offset → refused 20 ≡ in_idat n base x
    unfolding in_idat
    idat_past k = rw (lt-ltb end (2 ^ 64) h, lt-leb (base + x.offset) n k)

    pub idat_open : base + x.offset ≤ n → x.length ≡ 0 → fine (record { from = base + x.offset; to = n }) ≡ in_idat n base x
    unfolding in_idat reach
    idat_open k z = rw (lt-ltb end (2 ^ 64) h, le-leb (base + x.offset) n k, eq-eqb x.length 0 z, le-leb n n (omega arith))

    module _ (z : x.length ≡ 0 → ⊥) where
      pub idat_20 : base + x.offset ≤ n → n < end → refused 20 ≡ in_idat n base x
      unfolding in_idat reach
      idat_20 k l = rw (lt-ltb end (2 ^ 64) h, le-leb (base + x.offset) n k, ne_eqb x.length 0 z, lt-leb end n l)

      pub idat_part : end ≤ n → fine (record { from = base + x.offset; to = end }) ≡ in_idat n base x
      unfolding in_idat reach
      idat_part l = rw (lt-ltb end (2 ^ 64) h, le-leb (base + x.offset) n (omega arith), ne_eqb x.length 0 z, le-leb end n l)

-- ---- An extent that is not refused ends inside the n bytes

abbrev pub EndsIn : ℕ → Outcome Span → Type 0
EndsIn n o = (p : Span) → o ≡ fine p → p.to ≤ n

pub lies_inside : (method n base : ℕ) (x : Extent) → EndsIn n (lies method n base x)
unfolding lies in_image in_idat
lies_inside method n base x p e =
    let (u, a, f) = bind_fine (require (ltb (base + x.offset) (2 ^ 64)) 18) _ (sym e) in
    go (eqb method 0) f
  where
    to : ℕ
    to = (reach n base x).to

    inside : leb to n ≡ true → fine p ≡ fine (reach n base x) → p.to ≤ n
    inside h f =
        let k : p ≡ reach n base x = cc in
        rw k (leb-true to n h)

    both : (s t : Bool) → (s && t) ≡ true → t ≡ true
    both true t h = h
    both false t h = cc

    go : (t : Bool) → fine p ≡ (if t then in_image n base x else in_idat n base x) → p.to ≤ n
    go true f =
        let (v, b, f₁) = bind_fine (require (leb to n) 2) _ f in
        inside (required (leb to n) 2 b) f₁
    go false f =
        let (v, b, f₁) = bind_fine (require (ltb (base + x.offset + x.length) (2 ^ 64)) 19) _ f in
        let (w, c, f₂) = bind_fine (require (leb (base + x.offset) n && leb to n) 20) _ f₁ in
        inside (both (leb (base + x.offset) n) (leb to n) (required (leb (base + x.offset) n && leb to n) 20 c)) f₂
