-- Images of one length that agree on the bytes consulted have the same segments there, and the same segments walked.
use Rattle.std.specs.Prelude.{◌≡◌, ℕ, suc, ◌+◌, ◌-◌, ◌≤◌, ◌<◌, min, ◌&&◌, ◌||◌, List, [], length, ltb, eqb, if◌then◌else◌}
use Rattle.std.proofs.Math.Path.{refl, ap}
use Rattle.std.proofs.Common.{◌∙◌, arith, leb-true, leb-false, ltb-true}
use Rattle.std.proofs.Math.Bool.{Bool, true, false}
use Rattle.std.proofs.Math.Option.{Option}
use Rattle.std.proofs.Math.Dec.{leb}
use Rattle.rules.specs.Doc.Outcomes.{Outcome, fine, refused, ◌>>=◌, require}
use Rattle.rules.specs.Doc.Bytes.{byte_at, number_at, positions, size_of}
use Rattle.rules.specs.Doc.Walks.{Then, halt, onward, Step, over, met, run}
use Rattle.rules.specs.Doc.Consulted.{Agree}
use Rattle.rules.specs.Laws.Agreement.{agree_left, agree_right, range_of, number_same}
use Rattle.rules.specs.Laws.SameWalks.{step_bytes, run_same}
use Rattle.jpeg_rules.specs.Doc.Segments.{prefix, ends_search, lacks_length, marker_at, Segment, body_at, body, length_at, length_read, segment_at, exif_name, APP1, is_exif, length_test, said, segment_met, segment_step, segments}
use Rattle.jpeg_rules.specs.Doc.Consulted.{tested_bytes, head_bytes, name_bytes, segment_bytes, search_bytes}
use Rattle.jpeg_rules.specs.Laws.Marker.{marker_least, marker_same}

-- ---- A segment

-- what a look for a segment reads: its FF bytes, marker and length, or where none stands the bytes tested
unfoldable look_bytes : List ℕ → ℕ → Outcome Segment → List ℕ
look_bytes s start (fine x) = head_bytes x
look_bytes s start (refused n) = tested_bytes s start

module _ (a b : List ℕ) (e : length a ≡ length b) (start : ℕ) (inside : start < length a) where
  abbrev at : ℕ
  at = marker_at a start

  abbrev marker : ℕ
  marker = byte_at a at

  -- agreement on the FF bytes, and on the byte behind them if there is one
  abbrev SameTested : Type 0
  SameTested = (i : ℕ) → start ≤ i → i ≤ at → i < length a → byte_at a i ≡ byte_at b i

  tested_same : Agree a b (tested_bytes a start) → SameTested
  unfolding tested_bytes
  tested_same g i h j k = range_of a b start (min (suc at) (length a) - start) g i h (omega arith)

  front_same : (n : ℕ) → suc at ≤ start + n → Agree a b (positions start n) → SameTested
  front_same n l g i h j k = range_of a b start n g i h (omega arith)

  module _ (same : SameTested) where
    first_same : byte_at a start ≡ byte_at b start
    first_same = same start (omega arith) (marker_least a start) inside

    at_same : at ≡ marker_at b start
    at_same = marker_same a b start e same

    mark_same : at < length a → marker ≡ byte_at b at
    mark_same h = same at (marker_least a start) (omega arith) h

  abbrev read : List ℕ → Option ℕ → Outcome Segment
  read s size = fine (record { start = start; at = marker_at s start; marker = byte_at s (marker_at s start); length = size })

  -- by the tests that a look makes: an FF, a marker byte, whether it has a length, and whether that is whole
  looks_same : (t₁ t₂ t₃ t₄ : Bool) → eqb (byte_at a start) prefix ≡ t₁ → ltb at (length a) ≡ t₂ → (ends_search marker || lacks_length marker) ≡ t₃
      → leb (at + 3) (length a) ≡ t₄ → Agree a b (look_bytes a start (segment_at a start)) → segment_at a start ≡ segment_at b start
  unfolding look_bytes head_bytes segment_at length_read length_at body body_at
  looks_same false t₂ t₃ t₄ e₁ e₂ e₃ e₄ g =
      let same = tested_same (rw e₁ at g) in
      rw (← first_same same, e₁)
  looks_same true false t₃ t₄ e₁ e₂ e₃ e₄ g =
      let same = tested_same (rw (e₁, e₂) at g) in
      rw (← first_same same, e₁, ← at_same same, ← e, e₂)
  looks_same true true true t₄ e₁ e₂ e₃ e₄ g =
      let l = marker_least a start in
      let same = front_same (at + 1 - start) (omega arith) (rw (e₁, e₂, e₃) at g) in
      rw (← first_same same, e₁, ← at_same same, ← e, e₂, ← mark_same same (ltb-true at (length a) e₂), e₃)
  looks_same true true false false e₁ e₂ e₃ e₄ g =
      let same = tested_same (rw (e₁, e₂, e₃, e₄) at g) in
      rw (← first_same same, e₁, ← at_same same, ← e, e₂, ← mark_same same (ltb-true at (length a) e₂), e₃, e₄)
  looks_same true true false true e₁ e₂ e₃ e₄ g =
      let l = marker_least a start in
      let h : Agree a b (positions start (at + 3 - start)) = rw (e₁, e₂, e₃, e₄) at g in
      let same = front_same (at + 3 - start) (omega arith) h in
      let size : number_at a (at + 1) 2 ≡ number_at b (at + 1) 2
      = number_same a b start (start + (at + 3 - start)) (at + 1) 2 (range_of a b start (at + 3 - start) h) (omega arith) (omega arith) in
      rw (← first_same same, e₁, ← at_same same, ← e, e₂, ← mark_same same (ltb-true at (length a) e₂), e₃, e₄, size)

  segment_same : Agree a b (look_bytes a start (segment_at a start)) → segment_at a start ≡ segment_at b start
  segment_same g = looks_same _ _ _ _ refl refl refl refl g

-- ---- What is said of it

module _ (a b : List ℕ) (e : length a ≡ length b) (x : Segment) where
  abbrev from : ℕ
  from = (body x).from

  abbrev size : ℕ
  size = size_of (body x)

  name_same : (t₁ t₂ : Bool) → leb 6 size ≡ t₂ → Agree a b (if t₁ then positions from (min 6 size) else [])
      → (t₁ && (t₂ && eqb (number_at a from 6) exif_name)) ≡ (t₁ && (t₂ && eqb (number_at b from 6) exif_name))
  name_same false t₂ f g = refl
  name_same true false f g = refl
  name_same true true f g =
      let h : 6 ≤ size = leb-true 6 size f in
      rw (number_same a b from (from + min 6 size) from 6 (range_of a b from (min 6 size) g) (omega arith) (omega arith))

  exif_same : Agree a b (if eqb x.marker APP1 then positions from (min 6 size) else []) → is_exif a x ≡ is_exif b x
  unfolding is_exif
  exif_same g = name_same (eqb x.marker APP1) (leb 6 size) refl g

  said_same : Agree a b (name_bytes a x) → said a x ≡ said b x
  unfolding said name_bytes
  said_same g = go (leb (body x).to (length a)) g ∙ ap (λ (n : ℕ). said_by (leb (body x).to n) (is_exif b x)) e
    where
      said_by : Bool → Bool → Outcome Then
      said_by whole exif = length_test x.length >>= λ u. require whole 2 >>= λ v. fine (if ends_search x.marker || exif then halt else onward (body x).to)

      go : (t : Bool) → Agree a b (if eqb x.marker APP1 then (if t then positions from (min 6 size) else []) else []) → said_by t (is_exif a x) ≡ said_by t (is_exif b x)
      go true g = ap (said_by true) (exif_same g)
      go false g = refl

-- ---- The walk

module _ (a b : List ℕ) (e : length a ≡ length b) where
  abbrev segment_step_bytes : ℕ → Step Segment → List ℕ
  segment_step_bytes = step_bytes (segment_bytes a) (tested_bytes a)

  -- the bytes of a step include those of the look for its segment
  step_looks : (at : ℕ) (o : Outcome Segment) → Agree a b (segment_step_bytes at (segment_met a o)) → Agree a b (look_bytes a at o)
  unfolding segment_met step_bytes look_bytes segment_bytes
  step_looks at (fine x) g = agree_left a b (head_bytes x) _ g
  step_looks at (refused n) g = g

  met_same : (at : ℕ) (o : Outcome Segment) → Agree a b (segment_step_bytes at (segment_met a o)) → segment_met a o ≡ segment_met b o
  unfolding segment_met step_bytes segment_bytes
  met_same at (fine x) g = ap (met x) (said_same a b e x (agree_right a b (head_bytes x) _ g))
  met_same at (refused n) g = refl

  step_same : (at : ℕ) → Agree a b (segment_step_bytes at (segment_step a at)) → segment_step a at ≡ segment_step b at
  unfolding segment_step step_bytes
  step_same at g = go (leb (length a) at) refl g ∙ ap (λ (n : ℕ). if leb n at then over else segment_met b (segment_at b at)) e
    where
      go : (t : Bool) → leb (length a) at ≡ t → Agree a b (segment_step_bytes at (if t then over else segment_met a (segment_at a at)))
          → (if t then over else segment_met a (segment_at a at)) ≡ (if t then over else segment_met b (segment_at b at))
      go true f g = refl
      go false f g =
          met_same at (segment_at a at) g
          ∙ ap (segment_met b) (segment_same a b e at (leb-false (length a) at f) (step_looks at (segment_at a at) g))

  -- The same bytes consulted, the same segments walked, and the same end: by the law for every walk.
  pub segments_same : Agree a b (search_bytes a) → segments a ≡ segments b
  unfolding search_bytes segments
  segments_same g =
      run_same (segment_bytes a) (tested_bytes a) a b (segment_step a) (segment_step b) step_same (length a) 2 g
      ∙ ap (λ (n : ℕ). run (segment_step b) n 2) e
