-- Demand 3: pictures have no say. Two images of one length that agree on the bytes consulted for the first get the same answer.
use Rattle.std.specs.Prelude.{◌≡◌, Bool, if◌then◌else◌}
use Rattle.std.proofs.Math.Path.{refl, ap}
use Rattle.std.proofs.Common.{sym, ap₂, ◌∙◌, arith, length-take, length-drop}
use Prim.Native.Nat.{ℕ, suc, ◌+◌, ◌/◌, ◌^◌, ◌≤◌, min}
use Rattle.std.proofs.Math.Decide.{dec_le}
use Rattle.std.proofs.Math.Bool.{true, false}
use mathlib.Core.List.{List, [], ◌∷◌, ◌++◌}
use Rattle.std.proofs.Math.ListN.{length, get_or-eq_default}
use Rattle.std.proofs.Math.Dec.{leb}
use borrow.Author.Tests.{leb-true}
use Rattle.rules.specs.Doc.Outcomes.{Outcome, fine, refused, ◌>>=◌, once}
use Rattle.rules.specs.Doc.Lists.{each}
use Rattle.rules.specs.Doc.Bytes.{byte_at, number_at, part, positions, Span, size_of, bytes_in, field, version}
use Rattle.rules.specs.Doc.Headers.{Box}
use Rattle.rules.specs.Doc.Levels.{inside}
use Rattle.rules.specs.Doc.Ftyp.{top_level, top}
use Rattle.rules.specs.Doc.Meta.{opened, meta_test}
use Rattle.rules.specs.Doc.Children.{meta_level, children, all_items, wanted_item, kept_in, kept}
use Rattle.rules.specs.Doc.Iinf.{items}
use Rattle.rules.specs.Doc.Join.{Plan, plan_of, plan, joined_by, joined_from, joined}
use Rattle.rules.specs.Doc.Block.{bytes_at, first_four, block_after, block_in, block}
use Rattle.rules.specs.Doc.Answers.{handed, answer_with, answer_by, answer}
use Rattle.rules.specs.Doc.Consulted.{end_bytes, walk_bytes, span_bytes, box_bytes, cut_bytes, boxes_bytes, meta_bytes, shift, consulted, Agree}
use Rattle.rules.specs.Laws.Agreement.{agree_left, agree_right, range_of, number_same, part_at, bytes_same, once_same}
use Rattle.rules.specs.Laws.SameBoxes.{boxes_same, opened_same}

-- ---- Steps 1 and 2

top_same : (a b : List ℕ) → length a ≡ length b → Agree a b (boxes_bytes top_level (length a) (top a)) → opened a ≡ opened b
unfolding opened top
top_same a b e g = rw (boxes_same top_level a b 0 e g, e)

-- ---- Steps 2 to 8: a and b are bodies of `meta`

module _ (a b : List ℕ) (e : length a ≡ length b) where
  version_same : Agree a b (positions 0 (min 4 (length a))) → version a 0 ≡ version b 0
  unfolding version field
  version_same g = go (leb 4 (length a)) refl ∙ ap (λ (n : ℕ). (if leb 4 n then fine (number_at b 0 4) else refused 3) >>= λ v. fine (v / 2 ^ 24)) e
    where
      go : (t : Bool) → leb 4 (length a) ≡ t
          → ((if t then fine (number_at a 0 4) else refused 3) >>= λ v. fine (v / 2 ^ 24)) ≡ ((if t then fine (number_at b 0 4) else refused 3) >>= λ v. fine (v / 2 ^ 24))
      go true h =
          let k : 4 ≤ length a = leb-true 4 (length a) h in
          rw (number_same a b 0 (0 + min 4 (length a)) 0 4 (range_of a b 0 (min 4 (length a)) g) (omega arith) (omega arith))
      go false h = refl

  items_same : (bs : List Box) → Agree a b (each (box_bytes meta_level (length a)) bs) → all_items a bs ≡ all_items b bs
  unfolding all_items meta_level inside
  items_same bs g = opened_same meta_level a b items e bs g

  children_same : Agree a b (boxes_bytes meta_level (length a) (children a)) → kept_in a (children a) ≡ kept_in b (children b)
  unfolding children kept_in wanted_item boxes_bytes walk_bytes
  children_same g =
      rw (items_same (children a).list (agree_left a b (each (box_bytes meta_level (length a)) (children a).list) (end_bytes (cut_bytes (length a)) (children a).end) g))
      (ap (kept_in b) (boxes_same meta_level a b 4 e g))

  kept_same : Agree a b (positions 0 (min 4 (length a))) → Agree a b (once (λ u. boxes_bytes meta_level (length a) (children a)) (meta_test a)) → kept a ≡ kept b
  unfolding kept meta_test
  kept_same g w =
      once_same a b (λ u. boxes_bytes meta_level (length a) (children a)) (λ u. kept_in a (children a)) (λ u. kept_in b (children b))
      (λ u. children_same) (meta_test a) (meta_test b) w (rw (version_same g))

  plan_same : (origin : ℕ) → Agree a b (meta_bytes a) → plan origin a ≡ plan origin b
  unfolding plan meta_bytes plan_of
  plan_same origin g =
      let p : List ℕ = positions 0 (min 4 (length a)) in
      let q : List ℕ = once (λ u. boxes_bytes meta_level (length a) (children a)) (meta_test a) in
      let r : List ℕ = once (λ k. span_bytes (length a) k.iloc) (kept a) in
      let h : Agree a b (q ++ r) = agree_right a b p (q ++ r) g in
      once_same a b (λ k. span_bytes (length a) k.iloc) (plan_of origin a) (plan_of origin b) (λ k t. rw (bytes_same a b k.iloc e t))
      (kept a) (kept b) (agree_right a b q r h) (kept_same (agree_left a b p (q ++ r) g) (agree_left a b q r h))

-- ---- From the body of `meta` to the image

part_byte : (a b : List ℕ) (f n i : ℕ) → byte_at a (f + i) ≡ byte_at b (f + i) → byte_at (part a f n) i ≡ byte_at (part b f n) i
part_byte a b f n i g =
    elim (dec_le (suc i) n) [
      | yes h ↦ part_at a f n i h ∙ g ∙ sym (part_at b f n i h)
      | no h ↦ get_or-eq_default (part a f n) 0 (simp (length-take, length-drop) (omega arith)) ∙ sym (get_or-eq_default (part b f n) 0 (simp (length-take, length-drop) (omega arith)))
    ]

-- agreement in the image, at positions counted from where a part begins, is agreement in the part
module _ (a b : List ℕ) (p : Span) (fit : Bool) where
  abbrev part_in : List ℕ → List ℕ
  part_in s = if fit then part s p.from (size_of p) else []

  shift_same : (ps : List ℕ) → Agree a b (shift p.from ps) → Agree (part_in a) (part_in b) ps
  unfolding shift
  shift_same [] g = tt
  shift_same (i ∷ ps) g = (go fit, shift_same ps g.1)
    where
      go : (t : Bool) → byte_at (if t then part a p.from (size_of p) else []) i ≡ byte_at (if t then part b p.from (size_of p) else []) i
      go true = part_byte a b p.from (size_of p) i g.0
      go false = refl

  parts_length : length a ≡ length b → length (part_in a) ≡ length (part_in b)
  parts_length e = go fit
    where
      go : (t : Bool) → length (if t then part a p.from (size_of p) else []) ≡ length (if t then part b p.from (size_of p) else [])
      go true = simp (length-take, length-drop, e)
      go false = refl

from_same : (a b : List ℕ) (m : Box) → length a ≡ length b → Agree a b (shift m.body.from (meta_bytes (bytes_in a m.body))) → joined_from a m ≡ joined_from b m
unfolding joined_from bytes_in
from_same a b m e g =
    let p : Span = m.body in
    let fit : Bool = leb p.to (length a) in
    ap (λ (o : Outcome Plan). o >>= joined_by (length a))
    (plan_same (part_in a b p fit a) (part_in a b p fit b) (parts_length a b p fit e) p.from (shift_same a b p fit (meta_bytes (part_in a b p fit a)) g))
    ∙ ap (λ (n : ℕ). plan p.from (if leb p.to n then part b p.from (size_of p) else []) >>= joined_by n) e

joined_same : (a b : List ℕ) → length a ≡ length b → Agree a b (boxes_bytes top_level (length a) (top a))
    → Agree a b (once (λ m. shift m.body.from (meta_bytes (bytes_in a m.body))) (opened a)) → joined a ≡ joined b
unfolding joined
joined_same a b e g h =
    once_same a b (λ m. shift m.body.from (meta_bytes (bytes_in a m.body))) (joined_from a) (joined_from b) (λ m. from_same a b m e)
    (opened a) (opened b) h (top_same a b e g)

-- ---- The block and the answer

at_same : (a b ps : List ℕ) → Agree a b ps → bytes_at a ps ≡ bytes_at b ps
unfolding bytes_at
at_same a b [] g = refl
at_same a b (i ∷ ps) g = ap₂ (λ (x : ℕ) (xs : List ℕ). x ∷ xs) g.0 (at_same a b ps g.1)

-- Of images with the same block, by agreement on those of its bytes that are handed out.
pub answers_same : (a b out : List ℕ) {o p : Outcome (List ℕ)} → Agree a b (once (handed (length out)) o) → o ≡ p → answer_by o a out ≡ answer_by p b out
unfolding answer_by
answers_same a b out {o} g k =
    ap (λ (bs : List ℕ). answer_with out bs o) (at_same a b (once (handed (length out)) o) g)
    ∙ ap (λ (q : Outcome (List ℕ)). answer_with out (bytes_at b (once (handed (length out)) q)) q) k

-- Equal lengths, equal output buffers, agreement on the bytes consulted for the first: the same number, length and output.
pub quiet : (a b out : List ℕ) → length a ≡ length b → Agree a b (consulted a (length out)) → answer a out ≡ answer b out
unfolding consulted block block_in
quiet a b out e g =
    let p : List ℕ = boxes_bytes top_level (length a) (top a) in
    let q : List ℕ = once (λ m. shift m.body.from (meta_bytes (bytes_in a m.body))) (opened a) in
    let r : List ℕ = once first_four (joined a) in
    let s : List ℕ = once (handed (length out)) (block a) in
    let g₁ : Agree a b (q ++ (r ++ s)) = agree_right a b p (q ++ (r ++ s)) g in
    let g₂ : Agree a b (r ++ s) = agree_right a b q (r ++ s) g₁ in
    let j : joined a ≡ joined b = joined_same a b e (agree_left a b p (q ++ (r ++ s)) g) (agree_left a b q (r ++ s) g₁) in
    let k : block a ≡ block b
    = once_same a b first_four (block_in a) (block_in b) (λ ps t. ap (λ (bs : List ℕ). block_after (number_at bs 0 4) ps) (at_same a b (first_four ps) t))
    (joined a) (joined b) (agree_left a b r s g₂) j in
    answers_same a b out (agree_right a b r s g₂) k
