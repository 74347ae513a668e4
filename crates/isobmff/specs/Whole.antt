-- From the parts to the whole: each answer of `get_exif_attr`, from what its callees ensure.
use Rattle.std.specs.Prelude.{◌≡◌, ℕ, ◌-◌, List, length, Result, Ok, Some, None}
use Rattle.std.proofs.Math.Path.{sym}
use Rattle.std.proofs.Common.{ap, ◌∙◌}
use Rattle.std.proofs.Math.Option as math
use Rattle.std.proofs.Math.Option.{none, some}
use Rattle.rules.specs.Doc.Outcomes.{Outcome, fine, refused, ◌>>=◌}
use Rattle.rules.specs.Doc.Bytes.{part, size_of, bytes_in}
use Rattle.rules.specs.Doc.Bytes as doc-bytes
use Rattle.rules.specs.Doc.Headers.{Box}
use Rattle.rules.specs.Doc.Meta.{opened}
use Rattle.rules.specs.Doc.Children as doc
use Rattle.rules.specs.Doc.Children.{kept}
use Rattle.rules.specs.Doc.Answers.{Answer, answer}
use Rattle.rules.specs.Laws.Rows.{apart, bind_fine}
use Rattle.rules.specs.Laws.Numbers.{bytes_in_is}
use Rattle.rules.specs.Laws.Lies.{Lies, opened_lies, iloc_lies, idat_lies}
use Rattle.rules.specs.OverBytes.{item_block, answer_of, refusal, store_in, kept_block, meta_block}
use Rattle.rules.specs.Laws.Gather.{answer_refused}
use Rattle.rules.specs.Laws.Lent.{answer_lent}
use Rattle.boxes.specs.declared.refusal.Refusal.{Refusal}
use Rattle.boxes.specs.declared.span.Span.{Span}
use Rattle.isobmff.specs.declared.meta.Kept.{Kept}
use Rattle.isobmff.specs.Told.{place_of, span_of, kept_of}
use Rattle.isobmff.specs.Top.{opened_body}

-- ---- The body of `meta`

pub meta_refused : (img body out : List ℕ) {n : ℕ} → refused n ≡ kept body → refusal n out ≡ answer_of out (meta_block img body)
unfolding meta_block
meta_refused img body out {n} e = answer_refused n out (ap (λ (o : Outcome doc.Kept). o >>= kept_block img body) e)

-- what `parse_meta` found
module _ (body : List ℕ) {r : Result Kept Refusal} (e : kept_of r ≡ kept body) {k : Kept} (f : r ≡ Ok k) where
  abbrev left : doc.Kept
  left = record { wanted = k.item_id; iloc = place_of k.iloc; idat = span_of k.idat }

  found : fine left ≡ kept body
  found = sym (ap kept_of f) ∙ e

  pub iloc_inside : Lies (length body) left.iloc
  iloc_inside = iloc_lies body left (sym found)

  pub idat_inside : {p : Span} → k.idat ≡ Some p → Lies (length body) (place_of p)
  idat_inside g = idat_lies body left _ (sym found) (ap span_of g)

  -- the bytes of the last `idat`, if there is one
  pub no_idat : k.idat ≡ None → none ≡ store_in body left.idat
  unfolding store_in
  no_idat g = rw g

  pub its_idat : {p : Span} → k.idat ≡ Some p → some (part body p.from (p.to - p.from)) ≡ store_in body left.idat
  unfolding store_in
  its_idat {p} g = rw (g, bytes_in_is body (place_of p) (idat_inside g).inner)

  pub kept_answer : (img out : List ℕ) {a : Answer} {store : math.Option (List ℕ)} → store ≡ store_in body left.idat
      → a ≡ answer_of out (item_block img store (part body k.iloc.from (k.iloc.to - k.iloc.from)) k.item_id)
      → a ≡ answer_of out (meta_block img body)
  unfolding meta_block kept_block
  kept_answer img out g h = rw (← found, ← g, bytes_in_is body left.iloc iloc_inside.inner) h

-- ---- The image

body_of : (img : List ℕ) {p : doc-bytes.Span} → fine p ≡ opened_body img → (m : Box) × (fine m ≡ opened img) × (fine p ≡ fine m.body)
unfolding opened_body
body_of img e = bind_fine (opened img) (λ m. fine m.body) e

pub meta_inside : (img : List ℕ) {p : doc-bytes.Span} → fine p ≡ opened_body img → Lies (length img) p
meta_inside img {p} e =
    let (m, f, g) = body_of img e in
    let z : p ≡ m.body = cc in
    rw z (opened_lies img m (sym f))

module _ (img out : List ℕ) where
  pub image_refused : {n : ℕ} → refused n ≡ opened_body img → refusal n out ≡ answer img out
  unfolding opened_body
  image_refused {n} e = go (opened img) e ∙ sym (answer_lent img out)
    where
      go : (o : Outcome Box) → refused n ≡ (o >>= λ m. fine m.body) → refusal n out ≡ answer_of out (o >>= λ m. meta_block img (bytes_in img m.body))
      go (fine m) e = absurd (apart (sym e))
      go (refused k) e =
          let z : n ≡ k = cc in
          answer_refused n out (ap refused z)

  pub image_opened : {p : doc-bytes.Span} → fine p ≡ opened_body img → {a : Answer} → a ≡ answer_of out (meta_block img (part img p.from (size_of p)))
      → a ≡ answer img out
  image_opened {p} e h =
      let (m, f, g) = body_of img e in
      let z : p ≡ m.body = cc in
      h ∙ sym (answer_lent img out ∙ rw (← f, ← z, bytes_in_is img p (meta_inside img e).inner))
