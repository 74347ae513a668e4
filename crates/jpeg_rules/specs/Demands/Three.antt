-- Demand 3: pictures have no say. Two images of one length that agree on the bytes consulted for the first get the same answer.
use Rattle.std.specs.Prelude.{◌≡◌, ◌&&◌, if◌then◌else◌}
use Rattle.std.proofs.Math.Path.{refl, ap, ap₂, sym}
use Rattle.std.proofs.Common.{◌∙◌, arith}
use Prim.Native.Nat.{ℕ, ◌+◌, ◌≤◌, ◌<◌, min}
use Rattle.std.proofs.Math.Bool.{Bool, true, false}
use mathlib.Core.List.{List, ◌++◌}
use Rattle.std.proofs.Math.ListN.{length}
use Rattle.std.proofs.Math.Dec.{leb, eqb}
use borrow.Author.Tests.{leb-true}
use Rattle.rules.specs.Doc.Outcomes.{Outcome, fine, ◌>>=◌, require, once, is_fine}
use Rattle.rules.specs.Doc.Bytes.{number_at, positions, Span, size_of}
use Rattle.rules.specs.Doc.Walks.{End, ended, cut_at, refused_at, stopped_at, Walk}
use Rattle.rules.specs.Doc.Headers.{Box}
use Rattle.rules.specs.Doc.Levels.{boxes}
use Rattle.rules.specs.Doc.Ftyp.{stopped}
use Rattle.rules.specs.Doc.Block.{block}
use Rattle.rules.specs.Doc.Heif.{heif_level, is_heif}
use Rattle.rules.specs.Doc.Answers.{handed, answer_by}
use Rattle.rules.specs.Doc.Consulted.{boxes_bytes, consulted, Agree}
use Rattle.rules.specs.Laws.Agreement.{agree_left, agree_right, range_of, number_same, once_same}
use Rattle.rules.specs.Laws.SameBoxes.{boxes_same}
use Rattle.rules.specs.Demands.Three.{answers_same, quiet}
use Rattle.jpeg_rules.specs.Doc.Segments.{Segment, is_exif, segments}
use Rattle.jpeg_rules.specs.Doc.Block.{is_jpeg, block_in, found, found_in, jpeg_block, jpeg_answer}
use Rattle.jpeg_rules.specs.Doc.Consulted.{start_bytes, search_bytes, jpeg_consulted}
use Rattle.jpeg_rules.specs.Doc.Either.{either_block, either_answer, either_consulted}
use Rattle.jpeg_rules.specs.Laws.SameSegments.{segments_same}
use Rattle.jpeg_rules.specs.Laws.Stopped.{stopped_read, stopped_exif}
use Rattle.jpeg_rules.specs.Laws.Apart.{jpeg_no_heif}
use Rattle.jpeg_rules.specs.Laws.Asked.{as_jpeg}

-- ---- JPEG

module _ (a b : List ℕ) (e : length a ≡ length b) where
  start_same : Agree a b (start_bytes a) → is_jpeg a ≡ is_jpeg b
  unfolding is_jpeg start_bytes
  start_same g = go (leb 2 (length a)) refl ∙ ap (λ (n : ℕ). leb 2 n && eqb (number_at b 0 2) 0xffd8) e
    where
      go : (t : Bool) → leb 2 (length a) ≡ t → (t && eqb (number_at a 0 2) 0xffd8) ≡ (t && eqb (number_at b 0 2) 0xffd8)
      go false f = refl
      go true f =
          let h : 2 ≤ length a = leb-true 2 (length a) f in
          rw (number_same a b 0 (0 + min 2 (length a)) 0 2 (range_of a b 0 (min 2 (length a)) g) (omega arith) (omega arith))

  -- the segment that ended the walk is an Exif segment in both, or in neither
  found_same : segments a ≡ segments b → found_in a ≡ found_in b
  unfolding found block_in
  found_same w = go (segments a).end refl ∙ ap (λ (w : Walk Segment). found b w.end) w
    where
      go : (end : End Segment) → (segments a).end ≡ end → found a end ≡ found b end
      go ended f = refl
      go (cut_at n at) f = refl
      go (refused_at n x) f = refl
      go (stopped_at x) f =
          let (p, h, i) = stopped_read a x f in
          let (q, j, k) = stopped_read b x (sym (ap (λ (w : Walk Segment). w.end) w) ∙ f) in
          let same : is_exif a x ≡ is_exif b x = stopped_exif a x i ∙ sym (stopped_exif b x k) in
          rw same

  search_same : Agree a b (search_bytes a) → found_in a ≡ found_in b
  search_same g = found_same (segments_same a b e g)

  jpeg_same : Agree a b (start_bytes a) → Agree a b (once (λ u. search_bytes a) (require (is_jpeg a) 31))
      → jpeg_block a ≡ jpeg_block b
  unfolding jpeg_block
  jpeg_same g h =
      once_same a b (λ u. search_bytes a) (λ u. placed (found_in a)) (λ u. placed (found_in b))
      (λ u k. ap placed (search_same k)) (require (is_jpeg a) 31) (require (is_jpeg b) 31) h (ap (λ (t : Bool). require t 31) (start_same g))
    where
      placed : Outcome Span → Outcome (List ℕ)
      placed o = o >>= λ p. fine (positions p.from (size_of p))

  pub jpeg_quiet : (out : List ℕ) → Agree a b (jpeg_consulted a (length out)) → jpeg_answer a out ≡ jpeg_answer b out
  unfolding jpeg_consulted
  jpeg_quiet out g =
      let p : List ℕ = start_bytes a in
      let q : List ℕ = once (λ u. search_bytes a) (require (is_jpeg a) 31) in
      let r : List ℕ = once (handed (length out)) (jpeg_block a) in
      let h : Agree a b (q ++ r) = agree_right a b p (q ++ r) g in
      answers_same a b out (agree_right a b q r h) (jpeg_same (agree_left a b p (q ++ r) g) (agree_left a b q r h))

  -- ---- The reader above both formats

  heif_same : Agree a b (boxes_bytes heif_level (length a) (boxes heif_level a 0)) → is_heif a ≡ is_heif b
  unfolding is_heif
  heif_same g = ap (λ (w : Walk Box). is_fine (stopped w.end)) (boxes_same heif_level a b 0 e g)

  pub either_quiet : (out : List ℕ) → Agree a b (either_consulted a (length out)) → either_answer a out ≡ either_answer b out
  unfolding either_consulted either_block
  either_quiet out g =
      let p : List ℕ = boxes_bytes heif_level (length a) (boxes heif_level a 0) in
      let q : List ℕ = start_bytes a in
      let r : List ℕ = asked (is_heif a) (is_jpeg a) in
      let h : Agree a b (q ++ r) = agree_right a b p (q ++ r) g in
      go (is_heif a) (is_jpeg a) (agree_right a b q r h)
      ∙ ap₂ (λ (t j : Bool). answer_by (taken b t j) b out) (heif_same (agree_left a b p (q ++ r) g)) (start_same (agree_left a b q r h))
    where
      asked : Bool → Bool → List ℕ
      asked t j = if t then consulted a (length out) else if j then jpeg_consulted a (length out) else consulted a (length out)

      taken : List ℕ → Bool → Bool → Outcome (List ℕ)
      taken s t j = if t then block s else if j then jpeg_block s else block s

      go : (t j : Bool) → Agree a b (asked t j) → answer_by (taken a t j) a out ≡ answer_by (taken b t j) b out
      go true j g = quiet a b out e g
      go false true g = jpeg_quiet out g
      go false false g = quiet a b out e g

  -- The two questions consult more than the JPEG reader does: FF D8 and what follows could be the header of a box. Of a JPEG file below
  -- 4,292,345,856 bytes they add nothing: JPEG's own bytes alone decide.
  pub either_quiet_jpeg : (out : List ℕ) → is_jpeg a ≡ true → length a < 0xffd80000 → Agree a b (jpeg_consulted a (length out))
      → either_answer a out ≡ either_answer b out
  unfolding jpeg_consulted
  either_quiet_jpeg out j h g =
      let k : is_jpeg b ≡ true = sym (start_same (agree_left a b (start_bytes a) _ g)) ∙ j in
      as_jpeg a out (jpeg_no_heif a j h) j ∙ jpeg_quiet out g ∙ sym (as_jpeg b out (jpeg_no_heif b k (rw (← e) h)) k)
