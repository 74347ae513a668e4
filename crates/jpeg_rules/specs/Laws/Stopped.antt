-- The segment that ended the walk was read somewhere, and it is an Exif segment unless its marker is DA or D9. A block lies in it.
use Rattle.std.proofs.Math.Path.{◌≡◌, refl, ap}
use Rattle.std.proofs.Common.{sym, ◌∙◌, arith, eqb-true}
use Rattle.std.specs.Prelude.{ℕ, Bool, ◌&&◌, ◌||◌, List, length, leb, if◌then◌else◌}
use Rattle.std.proofs.Math.Bool.{true, false, not}
use Rattle.std.proofs.Math.Dec.{eqb}
use Rattle.rules.specs.Doc.Outcomes.{Outcome, fine, refused, require}
use Rattle.rules.specs.Doc.Bytes.{number_at, Span, size_of}
use Rattle.rules.specs.Doc.Walks.{Then, onward, halt, over, met, End, ended, cut_at, refused_at, stopped_at}
use Rattle.rules.specs.Laws.Rows.{apart, bind_fine}
use Rattle.rules.specs.Laws.Stops.{stopped_met}
use Rattle.jpeg_rules.specs.Doc.Segments.{ends_search, Segment, body, segment_at, exif_name, APP1, is_exif, length_test, said, segment_met, segment_step, segments}
use Rattle.jpeg_rules.specs.Doc.Block.{behind_name, block_in, found, found_in}

module _ (s : List ℕ) (x : Segment) where
  abbrev Read : Outcome Segment → Outcome Then → Type 0
  Read o v = (o ≡ fine x) × (said s x ≡ v)

  met_read : (o : Outcome Segment) {v : Outcome Then} → segment_met s o ≡ met x v → Read o v
  unfolding segment_met
  met_read (fine y) {v} e =
      let z : y ≡ x = cc in
      let w : said s y ≡ v = cc in
      (ap fine z, ap (said s) (sym z) ∙ w)
  met_read (refused n) e = absurd (let z : ◌≡◌ {A = ℕ} 0 1 = cc in omega arith)

  step_read : (at : ℕ) {v : Outcome Then} → segment_step s at ≡ met x v → Read (segment_at s at) v
  unfolding segment_step
  step_read at {v} e = go (leb (length s) at) e
    where
      go : (t : Bool) → (if t then over else segment_met s (segment_at s at)) ≡ met x v → Read (segment_at s at) v
      go true e = absurd (let z : ◌≡◌ {A = ℕ} 0 1 = cc in omega arith)
      go false e = met_read (segment_at s at) e

  pub stopped_read : (segments s).end ≡ stopped_at x → (p : ℕ) × (segment_at s p ≡ fine x) × (said s x ≡ fine halt)
  unfolding segments
  stopped_read e =
      let (p, f) = stopped_met (segment_step s) x (length s) 2 e in
      let (g, h) = step_read p f in
      (p, g, h)

  -- DA and D9 are not E1
  ends_other : ends_search x.marker ≡ true → is_exif s x ≡ false
  unfolding ends_search is_exif
  ends_other e = go (eqb x.marker 0xda) (eqb x.marker 0xd9) refl refl e
    where
      go : (p q : Bool) → eqb x.marker 0xda ≡ p → eqb x.marker 0xd9 ≡ q → (p || q) ≡ true
          → (eqb x.marker APP1 && (leb 6 (size_of (body x)) && eqb (number_at s (body x).from 6) exif_name)) ≡ false
      go true q f g e = rw (eqb-true x.marker 0xda f)
      go false true f g e = rw (eqb-true x.marker 0xd9 g)
      go false false f g e = absurd (let z : ◌≡◌ {A = ℕ} 0 1 = cc in omega arith)

  pub stopped_exif : said s x ≡ fine halt → is_exif s x ≡ not (ends_search x.marker)
  unfolding said
  stopped_exif e =
      let (u, f, g) = bind_fine (length_test x.length) _ (sym e) in
      let (v, h, i) = bind_fine (require (leb (body x).to (length s)) 2) _ g in
      go (ends_search x.marker) (is_exif s x) refl refl i
    where
      go : (p q : Bool) → ends_search x.marker ≡ p → is_exif s x ≡ q → fine halt ≡ fine (if p || q then halt else onward (body x).to) → is_exif s x ≡ not p
      go true q f g e = ends_other f
      go false true f g e = g
      go false false f g e = absurd (let z : ◌≡◌ {A = ℕ} 0 1 = cc in omega arith)

-- where a block lies, it lies behind the name in the segment that ended the search
pub found_behind : (s : List ℕ) {p : Span} → fine p ≡ found_in s
    → (x : Segment) × ((segments s).end ≡ stopped_at x) × (is_exif s x ≡ true) × (p ≡ behind_name x)
unfolding found block_in
found_behind s {p} e = go (segments s).end refl e
  where
    go : (end : End Segment) → (segments s).end ≡ end → fine p ≡ found s end
        → (x : Segment) × ((segments s).end ≡ stopped_at x) × (is_exif s x ≡ true) × (p ≡ behind_name x)
    go ended f g = absurd (apart g)
    go (cut_at n at) f g = absurd (apart g)
    go (refused_at n x) f g = absurd (apart g)
    go (stopped_at x) f g = by (is_exif s x) refl g
      where
        by : (t : Bool) → is_exif s x ≡ t → fine p ≡ (if t then fine (behind_name x) else refused 1)
            → (x : Segment) × ((segments s).end ≡ stopped_at x) × (is_exif s x ≡ true) × (p ≡ behind_name x)
        by false k g = absurd (apart g)
        by true k g = (x, f, k, cc)
