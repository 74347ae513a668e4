-- The segments, one after another, up to the one that ends the search: what the loop follows.
use Rattle.std.proofs.Math.Path.{◌≡◌, refl, ap}
use Rattle.std.proofs.Common.{sym, ◌∙◌, arith}
use Rattle.std.specs.Prelude.{Bool, ◌||◌, List, ℕ, ◌≤◌, ◌<◌, leb, ltb, eqb, if◌then◌else◌}
use Rattle.std.proofs.Math.Bool.{true, false}
use Rattle.std.proofs.Math.Option.{Option, none, some}
use Rattle.std.proofs.Math.ListN.{length}
use borrow.Author.Tests.{le-leb, lt-leb}
use Rattle.rules.specs.Doc.Outcomes.{Outcome, fine, refused, ◌>>=◌, require}
use Rattle.rules.specs.Doc.Bytes.{byte_at, Span}
use Rattle.rules.specs.Doc.Walks.{Then, onward, halt, over, met, Walk, bare, walked, judged, after, run}
use Rattle.rules.specs.Laws.Rows.{bind_fine, by_test}
use Rattle.rules.specs.Laws.Unroll.{Forward, unroll}
use Rattle.jpeg_rules.specs.Doc.Segments.{prefix, ends_search, marker_at, Segment, body_at, body, length_read, segment_at, is_exif, length_test, said, segment_met, segment_step, segments}
use Rattle.jpeg_rules.specs.Doc.Block.{block_in, found, found_in}
use Rattle.jpeg_rules.specs.Laws.Marker.{marker_least}
use Rattle.jpeg.specs.Told.{Lead, on, block}
use Rattle.jpeg.specs.Leads.{lead_by, lead_of, lead_at}

-- ---- Definitions

-- where the block lies, by the segments from a position on
unfoldable pub found_from : List ℕ → ℕ → Outcome Span
found_from s at = found s (run (segment_step s) (length s) at).end

abbrev pub after_lead : List ℕ → Lead → Outcome Span
after_lead s (on at) = found_from s at
after_lead s (block p) = fine p

-- ---- A segment that is passed leads forward

module _ (s : List ℕ) where
  segment_ahead : (at : ℕ) {x : Segment} → fine x ≡ segment_at s at → at < (body x).to
  unfolding segment_at body body_at
  segment_ahead at {x} e =
      let here = marker_at s at in
      let (u, f, e₁) = bind_fine (require (eqb (byte_at s at) prefix) 32) _ e in
      let (v, g, e₂) = bind_fine (require (ltb here (length s)) 2) _ e₁ in
      let (size, h, e₃) = bind_fine (length_read s here (byte_at s here)) _ e₂ in
      let z : x ≡ record { start = at; at = here; marker = byte_at s here; length = size } = cc in
      rw z (go size)
    where
      go : (size : Option ℕ) → at < (body_at (marker_at s at) size).to
      go none = omega (arith, marker_least s at)
      go (some n) = omega (arith, marker_least s at)

  -- it goes on behind the body
  said_on : (x : Segment) {next : ℕ} → fine (onward next) ≡ said s x → next ≡ (body x).to
  unfolding said
  said_on x {next} e =
      let (u, f, e₁) = bind_fine (length_test x.length) _ e in
      let (v, g, e₂) = bind_fine (require (leb (body x).to (length s)) 2) _ e₁ in
      go (ends_search x.marker || is_exif s x) e₂
    where
      go : (t : Bool) → fine (onward next) ≡ fine (if t then halt else onward (body x).to) → next ≡ (body x).to
      go true e = absurd (let z : ◌≡◌ {A = ℕ} 0 1 = cc in omega arith)
      go false e = cc

  passed_ahead : (at : ℕ) {x : Segment} {next : ℕ} → fine x ≡ segment_at s at → fine (onward next) ≡ said s x → at < next
  passed_ahead at {x} e f = rw (said_on x f) (segment_ahead at e)

  step_forward : (at : ℕ) → Forward at (segment_step s at)
  unfolding segment_step segment_met
  step_forward at = by_test (Forward at) (leb (length s) at) (λ e. tt) (λ e. go (segment_at s at) refl)
    where
      by_said : (x : Segment) → fine x ≡ segment_at s at → (v : Outcome Then) → v ≡ said s x → Forward at (met x v)
      by_said x e (refused n) f = tt
      by_said x e (fine halt) f = tt
      by_said x e (fine (onward next)) f = passed_ahead at e f

      go : (o : Outcome Segment) → o ≡ segment_at s at → Forward at (segment_met s o)
      go (refused n) e = tt
      go (fine x) e = by_said x e (said s x) refl

  -- ---- The walk, from a position on

  step_over : (at : ℕ) → length s ≤ at → segment_step s at ≡ over
  unfolding segment_step
  step_over at h = rw (le-leb (length s) at h)

  found_step : (at : ℕ) → found_from s at ≡ found s (after at (segment_step s at) (run (segment_step s) (length s))).end
  unfolding found_from
  found_step at = ap (λ (w : Walk Segment). found s w.end) (unroll (segment_step s) (length s) step_forward step_over at)

  found_block : (o : Outcome Span) → o ≡ ((o >>= λ p. fine (block p)) >>= after_lead s)
  found_block (fine p) = refl
  found_block (refused n) = refl

  found_said : (x : Segment) (v : Outcome Then) → found s (judged x v (run (segment_step s) (length s))).end ≡ ((v >>= lead_by s x) >>= after_lead s)
  unfolding judged bare found found_from lead_by
  found_said x (refused n) = refl
  found_said x (fine halt) = found_block (block_in s x)
  found_said x (fine (onward next)) = refl

  found_met : (at : ℕ) (o : Outcome Segment)
      → found s (after at (segment_met s o) (run (segment_step s) (length s))).end ≡ ((o >>= lead_of s) >>= after_lead s)
  unfolding segment_met after walked bare found lead_of
  found_met at (refused n) = refl
  found_met at (fine x) = found_said x (said s x)

  -- The segments from a position: one segment, and what it leads to.
  found_next : (at : ℕ) → at < length s → found_from s at ≡ (lead_at s at >>= after_lead s)
  unfolding segment_step lead_at
  found_next at h = rw (found_step at, lt-leb (length s) at h) (found_met at (segment_at s at))

  pub found_start : found_from s 2 ≡ found_in s
  unfolding found_from segments
  found_start = refl

-- in the loop: the segments from `at` on decide the answer
module _ (s : List ℕ) (at : ℕ) (inv : found_from s at ≡ found_in s) where
  pub search_done : length s ≤ at → refused 2 ≡ found_in s
  unfolding after bare found
  search_done h = rw (found_step s at, step_over s at h) at inv

  search_next : at < length s → {o : Outcome Lead} → o ≡ lead_at s at → (o >>= after_lead s) ≡ found_in s
  search_next h e = rw e (sym (found_next s at h) ∙ inv)

  pub search_refused : at < length s → {n : ℕ} → refused n ≡ lead_at s at → refused n ≡ found_in s
  search_refused h e = search_next h e

  pub search_found : at < length s → {p : Span} → fine (block p) ≡ lead_at s at → fine p ≡ found_in s
  search_found h e = search_next h e

  pub search_on : at < length s → {next : ℕ} → fine (on next) ≡ lead_at s at → found_from s next ≡ found_in s
  search_on h e = search_next h e

pub on_ahead : (s : List ℕ) (at : ℕ) {next : ℕ} → fine (on next) ≡ lead_at s at → at < next
unfolding lead_at lead_of lead_by
on_ahead s at {next} e =
    let (x, f, e₁) = bind_fine (segment_at s at) (lead_of s) e in
    let (then', g, e₂) = bind_fine (said s x) (lead_by s x) e₁ in
    go x f then' g e₂
  where
    go : (x : Segment) → fine x ≡ segment_at s at → (t : Then) → fine t ≡ said s x → fine (on next) ≡ lead_by s x t → at < next
    go x f (onward n) g e =
        let z : next ≡ n = cc in
        rw z (passed_ahead s at f g)
    go x f halt g e =
        let (p, h, e₁) = bind_fine (block_in s x) (λ p. fine (block p)) e in
        absurd (let z : ◌≡◌ {A = ℕ} 0 1 = cc in omega arith)
