-- Bytes that begin as some others: there are as many, and they make the same number. The code asks for the bytes, the definitions for the number.
use Rattle.std.specs.Prelude.{◌≡◌, refl, Bool, true, false, ◌&&◌, List, [], ◌∷◌, ◌++◌, ℕ, zero, suc, ◌+◌, ◌≤◌, ◌<◌, length, take, drop, leb, ltb, eqb, T}
use Rattle.std.specs.List.{starts_with}
use Rattle.std.proofs.Common.{sym, ap, ◌∙◌, arith, ltb→lt, length-append, length-take-le, take-append-drop, ext_get_or, get_or-take}
use Rattle.std.proofs.Math.Decide.{ℕ_discrete}
use Rattle.std.proofs.Math.Bool.{true≢false}
use Rattle.std.proofs.lemmas.Bool.Decides.{Decides-eqb}
use Rattle.std.proofs.lemmas.Slice.Eq.{starts_is}
use Rattle.std.proofs.Math.ListN.{get_or-append}
use borrow.Author.Tests.{le-leb, eq-eqb, ne_eqb, leb-true}
use Rattle.rules.specs.Doc.Bytes.{byte_at, number_at}
use Rattle.rules.specs.Cases.{every}
use Rattle.jpeg_rules.specs.Doc.Segments.{APP1}
use Rattle.jpeg_rules.specs.Doc.Block.{is_jpeg}
use Rattle.rules.specs.Laws.Agreement.{Range, number_same}
use Rattle.rules.specs.Laws.Endian.{Bytes}
use Rattle.rules.specs.Laws.Rows.{both}
use Rattle.jpeg.specs.Exif.{exif_body}

-- bytes that make one number are the same
digits_same : (s p : List ℕ) → Bytes s → Bytes p → (n : ℕ) → number_at s 0 n ≡ number_at p 0 n → Range s p 0 n
unfolding number_at
digits_same s p b c zero e i h k = absurd (omega arith)
digits_same s p b c (suc n) e i h k =
    let front : number_at s 0 n ≡ number_at p 0 n = omega (arith, b (0 + n), c (0 + n), e) in
    let last : byte_at s (0 + n) ≡ byte_at p (0 + n) = omega (arith, b (0 + n), c (0 + n), e) in
    let z : i ≡ n → i ≡ 0 + n = λ q. omega (arith, q) in
    elim (ℕ_discrete i n) [
      | yes q ↦ rw (z q) last
      | no q ↦ digits_same s p b c n front i h (omega arith)
    ]

-- of some that are written out
written : (p : List ℕ) → T (every (λ x. ltb x 256) p) → Bytes p
unfolding every
written [] t k = omega arith
written (x ∷ xs) t zero = omega (arith, ltb→lt x 256 (both (ltb x 256) (every (λ x. ltb x 256) xs) t).0)
written (x ∷ xs) t (suc k) = written xs (both (ltb x 256) (every (λ x. ltb x 256) xs) t).1 k

module _ (s p : List ℕ) (b : Bytes s) (c : Bytes p) where
  starts_said : {r : Bool} → r ≡ starts_with eqb s p → r ≡ (leb (length p) (length s) && eqb (number_at s 0 (length p)) (number_at p 0 (length p)))
  starts_said {r} e = go r (starts_is Decides-eqb s p r e)
    where
      n : ℕ
      n = length p

      front : n ≤ length s → number_at s 0 n ≡ number_at p 0 n → s ≡ p ++ drop n s
      front h f =
          let k : length (take n s) ≡ n = length-take-le n s h in
          let same : take n s ≡ p =
          ext_get_or 0 (take n s) p k (λ i l. let m : i < n = rw k at l in get_or-take n s i 0 m ∙ digits_same s p b c n f i (omega arith) m) in
          sym (take-append-drop n s) ∙ ap (λ l. l ++ drop n s) same

      go : (r : Bool) → (r ≡ true → s ≡ p ++ drop n s) × ((rest : List ℕ) → s ≡ p ++ rest → r ≡ true)
          → r ≡ (leb n (length s) && eqb (number_at s 0 n) (number_at p 0 n))
      go true (is, back) =
          let z : s ≡ p ++ drop n s = is refl in
          let h : n ≤ length s = omega (arith, ap length z, length-append p (drop n s)) in
          let f : number_at s 0 n ≡ number_at p 0 n =
          number_same s p 0 n 0 n (λ i l k. ap (λ (t : List ℕ). byte_at t i) z ∙ get_or-append p (drop n s) 0 i k) (omega arith) (omega arith) in
          rw (le-leb n (length s) h, eq-eqb _ _ f)
      go false (is, back) = cut (leb n (length s)) refl
        where
          cut : (t : Bool) → leb n (length s) ≡ t → false ≡ (t && eqb (number_at s 0 n) (number_at p 0 n))
          cut false f = refl
          cut true f =
              sym (ne_eqb _ _ (λ g. true≢false (sym (back (drop n s) (front (leb-true n (length s) f) g)))))

-- ---- The two that are asked for

module _ (s : List ℕ) (b : Bytes s) {r : Bool} where
  pub begins_jpeg : r ≡ starts_with eqb s (0xff ∷ 0xd8 ∷ []) → r ≡ is_jpeg s
  unfolding is_jpeg number_at every
  begins_jpeg e = starts_said s (0xff ∷ 0xd8 ∷ []) b (written (0xff ∷ 0xd8 ∷ []) tt) e

  pub begins_exif : (marker : ℕ) → marker ≡ APP1 → r ≡ starts_with eqb s (0x45 ∷ 0x78 ∷ 0x69 ∷ 0x66 ∷ 0 ∷ 0 ∷ []) → r ≡ exif_body marker s
  unfolding exif_body number_at every
  begins_exif marker m e =
      let name = 0x45 ∷ 0x78 ∷ 0x69 ∷ 0x66 ∷ 0 ∷ 0 ∷ [] in
      rw m (starts_said s name b (written name tt) e)
