-- What one segment leads to.
use Rattle.std.specs.Prelude.{◌≡◌, Bool, true, false, ◌||◌, List, ℕ, ◌+◌, ◌-◌, ◌≤◌, ◌<◌, length, leb, eqb, if◌then◌else◌}
use Rattle.std.proofs.Math.Path.{refl}
use Rattle.std.proofs.Common.{◌∙◌}
use Rattle.std.proofs.Math.Bool.{and-false}
use Rattle.std.proofs.Math.Option.{Option, none, some}
use native.Mathlib.Omega.{arith}
use borrow.Author.Tests.{le-leb, leb-true, lt-ltb, le-ltb, eq-eqb, ne_eqb}
use Rattle.rules.specs.Doc.Outcomes.{Outcome, fine, refused, ◌>>=◌, require}
use Rattle.rules.specs.Doc.Bytes.{byte_at, part}
use Rattle.rules.specs.Doc.Walks.{Then, onward, halt}
use Rattle.rules.specs.Laws.Rows.{bind_assoc}
use Rattle.jpeg_rules.specs.Doc.Segments.{prefix, marker_at, ends_search, lacks_length, Segment, body_at, body, length_at, length_read, segment_at, APP1, is_exif, length_test, said}
use Rattle.jpeg_rules.specs.Doc.Block.{behind_name, block_in}
use Rattle.jpeg.specs.Told.{Lead, on, block}
use Rattle.jpeg.specs.Markers.{marker_later}
use Rattle.jpeg.specs.Exif.{exif_body, exif_body_is}
use Rattle.jpeg.specs.Bodies.{sized_end, body_end}

-- ---- Definitions

-- what is said of a segment, as what it leads to
unfoldable pub lead_by : List ℕ → Segment → Then → Outcome Lead
lead_by s x (onward next) = fine (on next)
lead_by s x halt = block_in s x >>= λ p. fine (block p)

unfoldable pub lead_of : List ℕ → Segment → Outcome Lead
lead_of s x = said s x >>= lead_by s x

-- of the segment at a position
unfoldable pub lead_at : List ℕ → ℕ → Outcome Lead
lead_at s at = segment_at s at >>= lead_of s

-- the same, of a segment with a body that is whole
unfoldable body_lead : List ℕ → ℕ → ℕ → ℕ → Outcome Lead
body_lead s marker from to = fine (if exif_body marker (part s from (to - from)) then block (record { from = from + 6; to = to }) else on to)

-- ---- A segment whose length is read

exif_lead : (s : List ℕ) (x : Segment) (t : Bool) → is_exif s x ≡ t
    → lead_by s x (if t then halt else onward (body x).to) ≡ fine (if t then block (behind_name x) else on (body x).to)
unfolding lead_by block_in
exif_lead s x true e = rw e
exif_lead s x false e = refl

sized_lead : (s : List ℕ) (start at marker size : ℕ) → ends_search marker ≡ false
    → lead_of s (record { start = start; at = at; marker = marker; length = some size }) ≡ (sized_end s at size >>= body_lead s marker (at + 3))
unfolding lead_of said length_test behind_name body body_at sized_end body_lead
sized_lead s start at marker size e = rw e (go (leb 2 size) (leb (at + 1 + size) (length s)) refl)
  where
    x : Segment
    x = record { start = start; at = at; marker = marker; length = some size }

    go : (t₁ t₂ : Bool) → leb (at + 1 + size) (length s) ≡ t₂
        → ((require t₁ 33 >>= λ u. require t₂ 2 >>= λ v. fine (if is_exif s x then halt else onward (at + 1 + size))) >>= lead_by s x)
        ≡ ((require t₁ 33 >>= λ u. require t₂ 2 >>= λ v. fine (at + 1 + size)) >>= body_lead s marker (at + 3))
    go false t₂ h = refl
    go true false h = refl
    go true true h = rw (← exif_body_is s x (leb-true _ _ h)) (exif_lead s x (is_exif s x) refl)

-- ---- The segment at a position, by what each test showed

module _ (s : List ℕ) (start : ℕ) where
  pub lead_unmarked : (byte_at s start ≡ prefix → ⊥) → refused 32 ≡ lead_at s start
  unfolding lead_at segment_at
  lead_unmarked ne = rw (ne_eqb (byte_at s start) prefix ne)

  -- the first FF is there, so the marker byte stands where it does from the next byte on
  module _ (begins : start < length s) (fills : byte_at s start ≡ prefix) {at : ℕ} (found : at ≡ marker_at s (start + 1)) where
    here : at ≡ marker_at s start
    here = found ∙ marker_later s start refl begins fills

    pub lead_cut : length s ≤ at → refused 2 ≡ lead_at s start
    unfolding lead_at segment_at
    lead_cut h = rw (eq-eqb (byte_at s start) prefix fills, ← here, le-ltb at (length s) h)

    module _ (inside : at < length s) where
      abbrev marker : ℕ
      marker = byte_at s at

      abbrev segment : Option ℕ → Segment
      segment size = record { start = start; at = at; marker = marker; length = size }

      lead_marked : lead_at s start ≡ (length_read s at marker >>= λ size. lead_of s (segment size))
      unfolding lead_at segment_at
      lead_marked =
          rw (eq-eqb (byte_at s start) prefix fills, ← here, lt-ltb at (length s) inside)
          (bind_assoc (length_read s at marker) (λ size. fine (segment size)) (lead_of s))

      -- where no length is read there is no body, and no name
      unnamed : is_exif s (segment none) ≡ false
      unfolding is_exif body body_at
      unnamed =
          let empty : at + 1 - (at + 1) ≡ 0 = omega arith in
          rw empty (and-false (eqb marker APP1))

      lead_unsized : (ends_search marker || lacks_length marker) ≡ true
          → lead_at s start ≡ lead_by s (segment none) (if ends_search marker || false then halt else onward (at + 1))
      unfolding length_read lead_of said length_test body body_at
      lead_unsized e = lead_marked ∙ rw (e, le-leb (at + 1) (length s) (omega arith), unnamed)

      module _ {ends : Bool} (e : ends ≡ ends_search marker) where
        pub lead_ends : ends ≡ true → refused 1 ≡ lead_at s start
        unfolding lead_by block_in
        lead_ends k = rw (lead_unsized (rw (← e, k)), ← e, k, unnamed)

        module _ (goes : ends ≡ false) {lacks : Bool} (l : lacks ≡ lacks_length marker) where
          pub lead_bare : lacks ≡ true → fine (on (at + 1)) ≡ lead_at s start
          unfolding lead_by
          lead_bare k = rw (lead_unsized (rw (← e, goes, ← l, k)), ← e, goes)

          module _ (has : lacks ≡ false) where
            lead_sized : lead_at s start ≡ (body_end s at >>= body_lead s marker (at + 3))
            unfolding length_read body_end
            lead_sized = lead_marked ∙ rw (← e, goes, ← l, has) (go (length_at s at))
              where
                go : (o : Outcome ℕ)
                    → ((o >>= λ size. fine (some size)) >>= λ size. lead_of s (segment size)) ≡ ((o >>= sized_end s at) >>= body_lead s marker (at + 3))
                go (refused n) = refl
                go (fine size) = sized_lead s start at marker size (rw (← e) goes)

            pub lead_refused : {n : ℕ} → refused n ≡ body_end s at → refused n ≡ lead_at s start
            lead_refused k = rw (lead_sized, ← k)

            module _ {to : ℕ} (b : fine to ≡ body_end s at) {exif : Bool} (x : exif ≡ exif_body marker (part s (at + 3) (to - (at + 3)))) where
              pub lead_block : exif ≡ true → fine (block (record { from = at + 3 + 6; to = to })) ≡ lead_at s start
              unfolding body_lead
              lead_block k = rw (lead_sized, ← b, ← x, k)

              pub lead_on : exif ≡ false → fine (on to) ≡ lead_at s start
              unfolding body_lead
              lead_on k = rw (lead_sized, ← b, ← x, k)
