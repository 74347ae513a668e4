-- Of an image: what is said of it is what its block says, so all that is claimed of a block holds. Which numbers refuse it, and how long the line
-- is. Pictures have no say.
use Rattle.std.specs.Prelude.{◌≡◌, ◌⊎◌, length, take, drop, leb, if◌then◌else◌}
use Rattle.std.proofs.Math.Path.{refl}
use Rattle.std.proofs.Common.{sym, ap, ◌∙◌, ⊎_elim, le_trans, pos_of_ne-zero, arith, leb→le, lit≤, lit<}
use Rattle.std.proofs.Math.Bool.{Bool, true, false}
use Rattle.std.proofs.Math.Logic.{inl, inr}
use Rattle.std.proofs.Math.Option.{some}
use mathlib.Core.List.{List, [], ◌∷◌, ◌++◌}
use Prim.Native.Nat.{ℕ, zero, suc, ◌≤◌, ◌<◌}
use Rattle.std.proofs.lemmas.List.{length-map}
use Rattle.std.proofs.Math.Seq.{take-append_seam}
use Rattle.std.proofs.Math.Dec.{eqb}
use borrow.Author.Tests.{le-leb, ne_eqb, eqb-true, eqb-false}
use Rattle.rules.specs.Doc.Outcomes.{Outcome, fine, refused, ◌>>=◌, require, once}
use Rattle.rules.specs.Doc.Bytes.{byte_at}
use Rattle.rules.specs.Doc.Block.{bytes_at}
use Rattle.rules.specs.Doc.Answers.{handed, answer_with, answer_by}
use Rattle.rules.specs.Doc.Consulted.{Agree}
use Rattle.rules.specs.Laws.Rows.{apart, both, bind_fine, bind_known}
use Rattle.rules.specs.Laws.Endian.{Bytes}
use Rattle.rules.specs.Laws.Numbered.{with_number}
use Rattle.rules.specs.Laws.Room.{Early}
use Rattle.jpeg_rules.specs.Doc.Either.{either_block, either_answer, either_consulted}
use Rattle.jpeg_rules.specs.Laws.Refusals.{either_early}
use Rattle.jpeg_rules.specs.Demands.One.{either_limit, either_number}
use Rattle.jpeg_rules.specs.Demands.Three as extraction
use Rattle.capture_rules.specs.Doc.Header.{Header, header}
use Rattle.capture_rules.specs.Doc.Fraction.{Fraction}
use Rattle.capture_rules.specs.Doc.Capture.{Capture, capture, of_answer, photo}
use Rattle.capture_rules.specs.Doc.Line.{line_text}
use Rattle.capture_rules.specs.Laws.Calendar.{Real}
use Rattle.capture_rules.specs.Laws.LineText.{Small, line_length, refusal_length}
use Rattle.capture_rules.specs.Laws.Faults.{Numbered, capture_numbered}
use Rattle.capture_rules.specs.Demands.Block.{InLowestTerms, date_real, bias_lowest, bias_small}

-- ---- What the block says

-- the block of an image, read from the front of an output buffer that it was written to
block_back : (img ps rest : List ℕ) → take (length ps) (bytes_at img ps ++ rest) ≡ bytes_at img ps
unfolding bytes_at
block_back img ps rest = rw (← length-map ps (byte_at img)) (take-append_seam (bytes_at img ps) rest)

-- The block is made of bytes if the image is.
pub bytes_of_block : (img ps : List ℕ) → Bytes img → Bytes (bytes_at img ps)
unfolding bytes_at
bytes_of_block img [] b k = record { fits = lit< tt }
bytes_of_block img (i ∷ ps) b zero = b i
bytes_of_block img (i ∷ ps) b (suc k) = bytes_of_block img ps b k

module _ (img out : List ℕ) where
  -- what a block says if there is room for it
  abbrev pub said_by : List ℕ → Outcome Capture
  said_by ps = require (leb (length ps) (length out)) 28 >>= λ u. capture (bytes_at img ps)

  handed_on : (o : Outcome (List ℕ)) → Early o → of_answer (answer_by o img out) ≡ (o >>= said_by)
  unfolding of_answer answer_by answer_with once handed
  handed_on (refused n) (with_number p) = rw (ne_eqb n 0 p.0)
  handed_on (fine ps) p = go (leb (length ps) (length out))
    where
      written : Bool → List ℕ
      written t = bytes_at img (if t then ps else [])

      go : (t : Bool)
          → of_answer (record { number = if t then 0 else 28; length = length ps; output = written t ++ drop (length (written t)) out })
          ≡ (require t 28 >>= λ u. capture (bytes_at img ps))
      go true = ap capture (block_back img ps (drop (length (bytes_at img ps)) out))
      go false = refl

  -- What is said of an image is what its block says, if it has one and there is room for it.
  pub photo_is : photo img out ≡ (either_block img >>= said_by)
  unfolding photo
  photo_is = handed_on (either_block img) (either_early img)

  -- With room for the block, it is what the block says.
  pub with_room : {ps : List ℕ} → either_block img ≡ fine ps → length ps ≤ length out → photo img out ≡ capture (bytes_at img ps)
  with_room {ps} e h = rw (photo_is, e, le-leb (length ps) (length out) h)

  -- Where something is handed out, there is a block that says it: so what is claimed of a block holds of it.
  pub photo_block : {c : Capture} → photo img out ≡ fine c → (ps : List ℕ) × (either_block img ≡ fine ps) × (capture (bytes_at img ps) ≡ fine c)
  photo_block e =
      let (ps, p, q) = bind_fine (either_block img) said_by (sym e ∙ photo_is) in
      let (u, r, s) = bind_fine (require (leb (length ps) (length out)) 28) (λ u. capture (bytes_at img ps)) q in
      (ps, sym p, sym s)

  -- The date is a date of the calendar, and the time of day is one.
  pub photo_real : {c : Capture} → photo img out ≡ fine c → Real c.time
  photo_real e = let (ps, p, q) = photo_block e in date_real (bytes_at img ps) q

  -- A bias is a fraction in lowest terms that stands in the block.
  pub photo_lowest : Bytes img → {c : Capture} → photo img out ≡ fine c → {f : Fraction} → c.bias ≡ some f
      → (ps : List ℕ) × (either_block img ≡ fine ps) × (h : Header) × (header (bytes_at img ps) ≡ fine h) × InLowestTerms h.order (bytes_at img ps) f
  photo_lowest bytes e g =
      let (ps, p, q) = photo_block e in
      let (h, r, lowest) = bias_lowest (bytes_at img ps) q (bytes_of_block img ps bytes) g in
      (ps, p, h, r, lowest)

  -- Neither part of a bias is larger than 2^31.
  pub photo_small : {c : Capture} → photo img out ≡ fine c → Small c.bias
  photo_small e = let (ps, p, q) = photo_block e in bias_small (bytes_at img ps) q

-- ---- The output buffer

-- A buffer of 65,531 bytes or more has room for every block: how long it is and what stands in it have no say.
pub any_large_buffer : (img out more : List ℕ) → Bytes img → 65531 ≤ length out → 65531 ≤ length more → photo img out ≡ photo img more
any_large_buffer img out more b h k = photo_is img out ∙ (bind_known (either_block img) same ∙ sym (photo_is img more))
  where
    same : (ps : List ℕ) → either_block img ≡ fine ps → said_by img out ps ≡ said_by img more ps
    same ps e =
        let l = either_limit img b e in
        rw (le-leb (length ps) (length out) (le_trans l h), le-leb (length ps) (length more) (le_trans l k))

-- ---- Refusals

-- the number of extraction, from 1 to 33
pub record ByExtraction (img out : List ℕ) (n : ℕ) : Type 0 where
  pub number : (either_answer img out).number ≡ n
  pub least : 1 ≤ n
  pub most : n ≤ 33

-- extraction answered 0, and the number is from 34 to 39
pub record ByBlock (img out : List ℕ) (n : ℕ) : Type 0 where
  pub number : (either_answer img out).number ≡ 0
  pub least : 34 ≤ n
  pub most : n ≤ 39

same_number : {m n : ℕ} → ◌≡◌ {A = Outcome Capture} (refused m) (refused n) → m ≡ n
same_number e = cc

block_refusal : (b : List ℕ) {n : ℕ} → capture b ≡ refused n → (34 ≤ n) × (n ≤ 39)
block_refusal b e = go (capture b) e (capture_numbered b)
  where
    go : (o : Outcome Capture) {n : ℕ} → o ≡ refused n → Numbered o → (34 ≤ n) × (n ≤ 39)
    go (fine c) e p = absurd (apart e)
    go (refused m) e (with_number t) =
        let l = both (leb 34 m) (leb m 39) t in
        rw (← same_number e) (leb→le 34 m l.0, leb→le m 39 l.1)

module _ (img out : List ℕ) where
  -- A number of extraction other than 0 refuses the image.
  pub extraction_refuses : ((either_answer img out).number ≡ 0 → ⊥) → photo img out ≡ refused (either_answer img out).number
  unfolding photo of_answer
  extraction_refuses h = rw (ne_eqb (either_answer img out).number 0 h)

  -- By the number it can be told whether extraction refused the image or its block was refused.
  pub refused_by : {n : ℕ} → photo img out ≡ refused n → ByExtraction img out n ⊎ ByBlock img out n
  unfolding photo of_answer
  refused_by {n} e = go (eqb (either_answer img out).number 0) refl
    where
      go : (t : Bool) → eqb (either_answer img out).number 0 ≡ t → ByExtraction img out n ⊎ ByBlock img out n
      go true f =
          let l = block_refusal (take (either_answer img out).length (either_answer img out).output) (rw f at e) in
          inr (record { number = eqb-true (either_answer img out).number 0 f; least = l.0; most = l.1 })
      go false f =
          let z : (either_answer img out).number ≡ 0 → ⊥ = eqb-false (either_answer img out).number 0 f in
          let same : (either_answer img out).number ≡ n = same_number (sym (extraction_refuses z) ∙ e) in
          inl (record { number = same; least = rw (← same) (pos_of_ne-zero z); most = rw (← same) (either_number img out) })

-- ---- The line

-- No line is longer than 62 bytes.
pub line_limit : (img out : List ℕ) → length (line_text (photo img out)) ≤ 62
line_limit img out = go (photo img out) refl
  where
    go : (o : Outcome Capture) → photo img out ≡ o → length (line_text o) ≤ 62
    go (fine c) e = line_length c (photo_small img out e)
    go (refused n) e =
        let h : n < 100 = ⊎_elim (λ x. omega (arith, x.most)) (λ x. omega (arith, x.most)) (refused_by img out e) in
        le_trans (refusal_length n h) (lit≤ tt)

-- ---- Bytes consulted

-- Demand 3: pictures have no say. Of two images of one length that agree on the bytes consulted for the first, the same is said.
pub photo_quiet : (a b out : List ℕ) → length a ≡ length b → Agree a b (either_consulted a (length out)) → photo a out ≡ photo b out
unfolding photo
photo_quiet a b out e g = ap of_answer (extraction.either_quiet a b e out g)
