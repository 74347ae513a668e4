-- A block that the front of a JPEG file has is the file's: what follows has no say, and whoever has only the front may ask. (A refusal may come from
-- where the front ends.) `s` is the front, and t the file, or any file that begins as s does.
use Rattle.std.proofs.Math.Path.{◌≡◌, refl, sym, ap}
use Rattle.std.proofs.Common.{◌∙◌, arith, length-take, get_or-take}
use Prim.Native.Nat.{ℕ, zero, suc, ◌+◌, ◌-◌, ◌≤◌, ◌<◌}
use Rattle.std.specs.Prelude.{Bool, ◌&&◌, ◌||◌, List, take, ltb, if◌then◌else◌}
use Rattle.std.proofs.Math.Bool.{true, false}
use Rattle.std.proofs.Math.Option.{Option, none, some}
use Rattle.std.proofs.Math.ListN.{length}
use Rattle.std.proofs.Math.Dec.{leb, eqb}
use borrow.Author.Tests.{le-leb, lt-leb, lt-ltb, leb-true, leb-false, ltb-true}
use Rattle.rules.specs.Doc.Outcomes.{Outcome, fine, refused, ◌>>=◌, require, once}
use Rattle.rules.specs.Doc.Bytes.{byte_at, number_at, positions, Span, size_of}
use Rattle.rules.specs.Doc.Walks.{Then, onward, halt, Step, over, cut, met, Walk, stopped_at, bare, walked, judged, after, run}
use Rattle.rules.specs.Doc.Answers.{handed}
use Rattle.rules.specs.Doc.Consulted.{Agree}
use Rattle.rules.specs.Laws.Rows.{bind_fine, required, by_test}
use Rattle.rules.specs.Laws.Agreement.{Range, number_same}
use Rattle.rules.specs.Demands.Three.{answers_same}
use Rattle.jpeg_rules.specs.Doc.Segments.{prefix, ends_search, lacks_length, past_fill, marker_at, Segment, body, length_at, length_read, segment_at, exif_name, APP1, is_exif, length_test, said, segment_met, segment_step, segments}
use Rattle.jpeg_rules.specs.Doc.Block.{is_jpeg, behind_name, block_in, found, found_in, jpeg_block, jpeg_answer}
use Rattle.jpeg_rules.specs.Doc.Either.{either_answer}
use Rattle.jpeg_rules.specs.Laws.Apart.{jpeg_no_heif}
use Rattle.jpeg_rules.specs.Laws.Asked.{as_jpeg}
use Rattle.jpeg_rules.specs.Laws.Marker.{past_step}
use Rattle.jpeg_rules.specs.Laws.Stopped.{stopped_read, found_behind}
use Rattle.jpeg_rules.specs.Demands.One.{block_held}

module _ (s t : List ℕ) (long : length s ≤ length t) (same : Range s t 0 (length s)) where
  -- ---- A segment

  past_front : (n m at : ℕ) → n ≤ m → at + n ≤ length s → past_fill s n at < at + n → past_fill s n at ≡ past_fill t m at
  unfolding past_fill
  past_front zero m at h k l = absurd (omega arith)
  past_front (suc n) zero at h k l = absurd (omega arith)
  past_front (suc n) (suc m) at h k l =
      past_step s t n m at (eqb (byte_at s at) prefix) refl (same at (omega arith) (omega arith))
      (λ e. past_front n m (suc at) (omega arith) (omega arith) (let z = rw e at l in omega arith))

  marker_front : (at : ℕ) → at < length s → marker_at s at < length s → marker_at s at ≡ marker_at t at
  unfolding marker_at
  marker_front at h k = past_front (length s - at) (length t - at) at (omega arith) (omega arith) (omega arith)

  number_front : (at n : ℕ) → at + n ≤ length s → number_at s at n ≡ number_at t at n
  number_front at n h = number_same s t 0 (length s) at n same (omega arith) h

  length_front : (at : ℕ) {size : ℕ} → fine size ≡ length_at s at → fine size ≡ length_at t at
  unfolding length_at
  length_front at e =
      let (u, f, g) = bind_fine (require (leb (at + 3) (length s)) 2) (λ u. fine (number_at s (at + 1) 2)) e in
      let h : at + 3 ≤ length s = leb-true (at + 3) (length s) (required _ 2 f) in
      rw (le-leb (at + 3) (length t) (omega arith), ← number_front (at + 1) 2 (omega arith)) g

  read_front : (at marker : ℕ) {size : Option ℕ} → fine size ≡ length_read s at marker → fine size ≡ length_read t at marker
  unfolding length_read
  read_front at marker {size} e = go (ends_search marker || lacks_length marker) e
    where
      go : (b : Bool) → fine size ≡ (if b then fine none else (length_at s at >>= λ n. fine (some n)))
          → fine size ≡ (if b then fine none else (length_at t at >>= λ n. fine (some n)))
      go true e = e
      go false e =
          let (n, f, g) = bind_fine (length_at s at) (λ n. fine (some n)) e in
          rw (← length_front at f) g

  segment_front : (start : ℕ) {x : Segment} → start < length s → fine x ≡ segment_at s start → fine x ≡ segment_at t start
  unfolding segment_at
  segment_front start {x} h e =
      let at = marker_at s start in
      let (u, f, e₁) = bind_fine (require (eqb (byte_at s start) prefix) 32) _ e in
      let (v, g, e₂) = bind_fine (require (ltb at (length s)) 2) _ e₁ in
      let (size, i, e₃) = bind_fine (length_read s at (byte_at s at)) _ e₂ in
      let k : at < length s = ltb-true at (length s) (required _ 2 g) in
      let here : at ≡ marker_at t start = marker_front start h k in
      let first : byte_at s start ≡ byte_at t start = same start (omega arith) h in
      let mark : byte_at s at ≡ byte_at t at = same at (omega arith) k in
      rw (← first, required (eqb (byte_at s start) prefix) 32 f, ← here, lt-ltb at (length t) (omega arith), ← mark, ← read_front at (byte_at s at) i) e₃

  -- ---- What is said of it

  exif_front : (x : Segment) → (body x).to ≤ length s → is_exif s x ≡ is_exif t x
  unfolding is_exif
  exif_front x h = ap (λ (b : Bool). eqb x.marker APP1 && b) (go (leb 6 (size_of (body x))) refl)
    where
      go : (b : Bool) → leb 6 (size_of (body x)) ≡ b
          → (b && eqb (number_at s (body x).from 6) exif_name) ≡ (b && eqb (number_at t (body x).from 6) exif_name)
      go false e = refl
      go true e = rw (number_front (body x).from 6 (omega (arith, leb-true 6 (size_of (body x)) e)))

  said_front : (x : Segment) {v : Then} → fine v ≡ said s x → (fine v ≡ said t x) × (is_exif s x ≡ is_exif t x) × ((body x).to ≤ length s)
  unfolding said
  said_front x e =
      let (u, f, e₁) = bind_fine (length_test x.length) _ e in
      let (w, g, e₂) = bind_fine (require (leb (body x).to (length s)) 2) _ e₁ in
      let h : (body x).to ≤ length s = leb-true (body x).to (length s) (required _ 2 g) in
      let z = exif_front x h in
      (rw (← f, le-leb (body x).to (length t) (omega arith), ← z) e₂, z, h)

  -- ---- The walk

  -- a segment that was read, and passed or ended the search, is met in the file too
  met_front : (at : ℕ) (o : Outcome Segment) → at < length s → o ≡ segment_at s at → {x : Segment} {v : Then} → segment_met s o ≡ met x (fine v)
      → segment_met t (segment_at t at) ≡ met x (fine v)
  unfolding segment_met
  met_front at (refused n) h e f = absurd (let z : ◌≡◌ {A = ℕ} 0 1 = cc in omega arith)
  met_front at (fine y) h e {x} {v} f =
      let z : y ≡ x = cc in
      let w : said s y ≡ fine v = cc in
      rw (← segment_front at h e, z, ← (said_front x (sym w ∙ ap (said s) z)).0)

  step_front : (at : ℕ) {x : Segment} {v : Then} → segment_step s at ≡ met x (fine v) → segment_step t at ≡ met x (fine v)
  unfolding segment_step
  step_front at {x} {v} e = go (leb (length s) at) refl e
    where
      go : (b : Bool) → leb (length s) at ≡ b → (if b then over else segment_met s (segment_at s at)) ≡ met x (fine v)
          → (if leb (length t) at then over else segment_met t (segment_at t at)) ≡ met x (fine v)
      go true f e = absurd (let z : ◌≡◌ {A = ℕ} 0 1 = cc in omega arith)
      go false f e =
          let h : at < length s = leb-false (length s) at f in
          rw (lt-leb (length t) at (omega arith)) (met_front at (segment_at s at) h refl e)

  after_front : (at : ℕ) (st : Step Segment) (f g : ℕ → Walk Segment) {x : Segment} → segment_step s at ≡ st
      → ((q : ℕ) → (f q).end ≡ stopped_at x → (g q).end ≡ stopped_at x) → (after at st f).end ≡ stopped_at x → (after at (segment_step t at) g).end ≡ stopped_at x
  unfolding after walked judged bare
  after_front at over f g i later e = absurd (let z : ◌≡◌ {A = ℕ} 0 1 = cc in omega arith)
  after_front at (cut n) f g i later e = absurd (let z : ◌≡◌ {A = ℕ} 0 1 = cc in omega arith)
  after_front at (met y (refused n)) f g i later e = absurd (let z : ◌≡◌ {A = ℕ} 0 1 = cc in omega arith)
  after_front at (met y (fine halt)) f g i later e = rw (step_front at i) e
  after_front at (met y (fine (onward next))) f g i later e = rw (step_front at i) (later next e)

  run_front : (n m at : ℕ) {x : Segment} → n ≤ m → (run (segment_step s) n at).end ≡ stopped_at x → (run (segment_step t) m at).end ≡ stopped_at x
  unfolding run bare
  run_front zero m at h e = absurd (let z : ◌≡◌ {A = ℕ} 0 1 = cc in omega arith)
  run_front (suc n) zero at h e = absurd (omega arith)
  run_front (suc n) (suc m) at h e =
      after_front at (segment_step s at) (run (segment_step s) n) (run (segment_step t) m) refl (λ q. run_front n m q (omega arith)) e

  -- ---- The block

  found_front : {p : Span} → fine p ≡ found_in s → fine p ≡ found_in t
  unfolding segments found block_in
  found_front e =
      let (x, end, exif, z) = found_behind s e in
      let (at, f, g) = stopped_read s x end in
      let i : is_exif t x ≡ true = sym (said_front x (sym g)).1 ∙ exif in
      rw (run_front (length s) (length t) 2 long end, i) (ap fine z)

  start_front : is_jpeg s ≡ true → is_jpeg t ≡ true
  unfolding is_jpeg
  start_front e = go (leb 2 (length s)) refl e
    where
      go : (b : Bool) → leb 2 (length s) ≡ b → (b && eqb (number_at s 0 2) 0xffd8) ≡ true → (leb 2 (length t) && eqb (number_at t 0 2) 0xffd8) ≡ true
      go false f e = absurd (let z : ◌≡◌ {A = ℕ} 0 1 = cc in omega arith)
      go true f e =
          let h : 2 ≤ length s = leb-true 2 (length s) f in
          rw (le-leb 2 (length t) (omega arith), ← number_front 0 2 (omega arith)) e

  block_front : {ps : List ℕ} → jpeg_block s ≡ fine ps → jpeg_block s ≡ jpeg_block t
  unfolding jpeg_block
  block_front e =
      let (u, f, g) = bind_fine (require (is_jpeg s) 31) _ (sym e) in
      let (p, h, i) = bind_fine (found_in s) _ g in
      e ∙ rw (start_front (required (is_jpeg s) 31 f), ← found_front h) i

  -- its bytes stand in the front
  bytes_front : (from n : ℕ) → from + n ≤ length s → Agree s t (positions from n)
  unfolding positions
  bytes_front from zero h = tt
  bytes_front from (suc n) h = (same from (omega arith) (omega arith), bytes_front (suc from) n (omega arith))

  name_front : (x : Segment) → (body x).to ≤ length s → (n : ℕ) → size_of (behind_name x) ≡ n → Agree s t (positions (behind_name x).from n)
  unfolding behind_name positions
  name_front x h zero e = tt
  name_front x h (suc n) e = bytes_front ((body x).from + 6) (suc n) (omega arith)

  positions_front : {ps : List ℕ} → jpeg_block s ≡ fine ps → Agree s t ps
  positions_front e =
      let b = block_held s e in
      let x : Segment = b.segment in
      let (at, f, g) = stopped_read s x b.ended_search in
      rw b.behind (name_front x (said_front x (sym g)).2 (size_of (behind_name x)) refl)

  handed_front : (room : ℕ) (ps : List ℕ) → Agree s t ps → Agree s t (handed room ps)
  unfolding handed
  handed_front room ps g = by_test (Agree s t) (leb (length ps) room) (λ e. g) (λ e. tt)

  -- The same number, length and output.
  pub front_answer : {ps : List ℕ} → jpeg_block s ≡ fine ps → (out : List ℕ) → jpeg_answer s out ≡ jpeg_answer t out
  unfolding once
  front_answer {ps} e out = answers_same s t out (rw e (handed_front (length out) ps (positions_front e))) (block_front e)

-- ---- The first n bytes of a file

module _ (img : List ℕ) (n : ℕ) {ps : List ℕ} (e : jpeg_block (take n img) ≡ fine ps) where
  shorter : length (take n img) ≤ length img
  shorter = simp length-take (omega arith)

  begins : Range (take n img) img 0 (length (take n img))
  begins i h k = get_or-take n img i 0 (omega (arith, simp length-take at k))

  pub front_is_file : (out : List ℕ) → jpeg_answer (take n img) out ≡ jpeg_answer img out
  front_is_file out = front_answer (take n img) img shorter begins e out

  started : is_jpeg (take n img) ≡ true
  unfolding jpeg_block
  started =
      let (u, f, g) = bind_fine (require (is_jpeg (take n img)) 31) _ (sym e) in
      required (is_jpeg (take n img)) 31 f

  -- So it is for the reader above both formats, of a file below 4,292,345,856 bytes.
  pub front_is_file_above : length img < 0xffd80000 → (out : List ℕ) → either_answer (take n img) out ≡ either_answer img out
  front_is_file_above h out =
      let file = start_front (take n img) img shorter begins started in
      as_jpeg (take n img) out (jpeg_no_heif (take n img) started (omega (arith, shorter))) started
      ∙ front_is_file out ∙ sym (as_jpeg img out (jpeg_no_heif img file h) file)
