-- From the parts to the whole: each answer of `get_exif_attr`, from what its callees ensure.
use Rattle.std.specs.Prelude.{◌≡◌, Bool, true, false, ◌&&◌, List, ℕ, ◌≤◌, length, leb}
use Rattle.std.proofs.Math.Path.{refl, sym, ap}
use Rattle.std.proofs.Common.{◌∙◌, arith}
use Rattle.std.proofs.Math.Dec.{eqb, leb→le}
use borrow.Author.Tests.{leb-true}
use Rattle.rules.specs.Doc.Outcomes.{Outcome, fine, refused, ◌>>=◌, require}
use Rattle.rules.specs.Doc.Bytes.{number_at, part, Span, positions, size_of}
use Rattle.rules.specs.Doc.Walks.{halt}
use Rattle.rules.specs.Doc.Block.{bytes_at}
use Rattle.rules.specs.Doc.Answers.{Answer}
use Rattle.rules.specs.OverBytes.{answer_of, refusal}
use Rattle.rules.specs.Laws.Rows.{bind_fine, required, both}
use Rattle.rules.specs.Laws.Lies.{Lies}
use Rattle.rules.specs.Laws.Gather.{on_fine, image_bytes, answer_refused, answer_with_is}
use Rattle.jpeg_rules.specs.Doc.Segments.{Segment, body, exif_name, APP1, is_exif, length_test, said}
use Rattle.jpeg_rules.specs.Doc.Block.{is_jpeg, behind_name, jpeg_block, jpeg_answer}
use Rattle.jpeg_rules.specs.Laws.Stopped.{stopped_read}
use Rattle.jpeg_rules.specs.Laws.Stopped.{found_behind}
use Rattle.jpeg_rules.specs.Doc.Block.{found_in}

-- ---- Where the block lies

module _ (s : List ℕ) where
  exif_long : (x : Segment) → is_exif s x ≡ true → 6 ≤ size_of (body x)
  unfolding is_exif
  exif_long x e =
      let size = size_of (body x) in
      let name = eqb (number_at s (body x).from 6) exif_name in
      leb→le 6 size (both (leb 6 size) name (both (eqb x.marker APP1) (leb 6 size && name) (rw e tt)).1).0

  stopped_whole : (x : Segment) → said s x ≡ fine halt → (body x).to ≤ length s
  unfolding said
  stopped_whole x e =
      let (u, f, e₁) = bind_fine (length_test x.length) _ (sym e) in
      let (v, g, e₂) = bind_fine (require (leb (body x).to (length s)) 2) _ e₁ in
      leb-true (body x).to (length s) (required _ 2 g)

  pub found_lies : {p : Span} → fine p ≡ found_in s → Lies (length s) p
  unfolding behind_name
  found_lies {p} e =
      let (x, f, exif, z) = found_behind s e in
      let (at, g, h) = stopped_read s x f in
      rw z (record { order = omega (arith, exif_long x exif); inner = stopped_whole x h })

-- ---- The answer

module _ (img out : List ℕ) {yes : Bool} (j : yes ≡ is_jpeg img) where
  pub not_jpeg : yes ≡ false → refusal 31 out ≡ jpeg_answer img out
  unfolding jpeg_block
  not_jpeg e = answer_refused 31 out refl ∙ sym (answer_with_is img out (jpeg_block img) ∙ rw (← j, e))

  module _ (k : yes ≡ true) where
    jpeg_answer_is : jpeg_answer img out ≡ answer_of out (on_fine (λ p. part img p.from (size_of p)) (found_in img))
    unfolding jpeg_block
    jpeg_answer_is = answer_with_is img out (jpeg_block img) ∙ rw (← j, k) (ap (answer_of out) (go (found_in img) refl))
      where
        go : (o : Outcome Span) → o ≡ found_in img
            → on_fine (bytes_at img) (o >>= λ p. fine (positions p.from (size_of p))) ≡ on_fine (λ p. part img p.from (size_of p)) o
        go (fine p) e =
            let i = found_lies img e in
            ap fine (image_bytes img p.from (size_of p) (omega arith))
        go (refused n) e = refl

    pub jpeg_refused : {n : ℕ} → refused n ≡ found_in img → refusal n out ≡ jpeg_answer img out
    jpeg_refused {n} e = answer_refused n out refl ∙ sym (jpeg_answer_is ∙ rw (← e))

    pub jpeg_found : {p : Span} → fine p ≡ found_in img → {a : Answer} → a ≡ answer_of out (fine (part img p.from (size_of p))) → a ≡ jpeg_answer img out
    jpeg_found e h = h ∙ sym (jpeg_answer_is ∙ rw (← e))
