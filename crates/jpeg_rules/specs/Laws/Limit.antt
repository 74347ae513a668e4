-- No block is longer than 65,527 bytes: two bytes say the length of its segment, which counts them and the name before the block.
use Rattle.std.proofs.Math.Path.{◌≡◌}
use Rattle.std.specs.Prelude.{refl, ℕ, ◌+◌, ◌-◌, ◌≤◌, ◌<◌, Bool, ◌||◌, List, length, leb, ltb, eqb, if◌then◌else◌}
use Rattle.std.proofs.Common.{sym}
use native.Mathlib.Omega.{arith}
use Rattle.std.proofs.Math.Bool.{true, false}
use Rattle.std.proofs.Math.Option.{Option, none, some}
use Rattle.rules.specs.Doc.Outcomes.{fine, ◌>>=◌, require}
use Rattle.rules.specs.Doc.Bytes.{byte_at, number_at, positions, Span, size_of}
use Rattle.rules.specs.Laws.Rows.{bind_fine}
use Rattle.rules.specs.Laws.Numbers.{number_below, positions_length}
use Rattle.rules.specs.Laws.Endian.{Bytes}
use Rattle.jpeg_rules.specs.Doc.Segments.{prefix, ends_search, lacks_length, marker_at, Segment, body_at, body, length_at, length_read, segment_at}
use Rattle.jpeg_rules.specs.Doc.Block.{is_jpeg, behind_name, found_in, jpeg_block}
use Rattle.jpeg_rules.specs.Laws.Stopped.{stopped_read, found_behind}

module _ (s : List ℕ) where
  -- a length that is read has two bytes
  read_small : (at marker size : ℕ) → Bytes s → fine (some size) ≡ length_read s at marker → size < 65536
  unfolding length_read length_at
  read_small at marker size b e = go (ends_search marker || lacks_length marker) e
    where
      go : (t : Bool) → fine (some size) ≡ (if t then fine none else (length_at s at >>= λ size. fine (some size))) → size < 65536
      go true e = absurd (let z : ◌≡◌ {A = ℕ} 0 1 = cc in omega arith)
      go false e =
          let (n, f, g) = bind_fine (length_at s at) (λ size. fine (some size)) e in
          let (u, h, i) = bind_fine (require (leb (at + 3) (length s)) 2) (λ u. fine (number_at s (at + 1) 2)) f in
          let z : size ≡ number_at s (at + 1) 2 = cc in
          rw z (number_below s (at + 1) 2 b)

  segment_small : (start : ℕ) (x : Segment) {size : ℕ} → Bytes s → segment_at s start ≡ fine x → x.length ≡ some size → size < 65536
  unfolding segment_at
  segment_small start x {size} b e f =
      let at = marker_at s start in
      let (u, g, h) = bind_fine (require (eqb (byte_at s start) prefix) 32) _ (sym e) in
      let (v, i, j) = bind_fine (require (ltb at (length s)) 2) _ h in
      let (size', k, l) = bind_fine (length_read s at (byte_at s at)) _ j in
      let z : x.length ≡ size' = cc in
      read_small at (byte_at s at) size b (rw (← f, z) k)

  name_limit : (x : Segment) → ((size : ℕ) → x.length ≡ some size → size < 65536) → size_of (behind_name x) ≤ 65527
  unfolding behind_name body body_at
  name_limit x h = go x.length h
    where
      go : (o : Option ℕ) → ((size : ℕ) → o ≡ some size → size < 65536) → (body_at x.at o).to - ((body_at x.at o).from + 6) ≤ 65527
      go none h = omega arith
      go (some size) h = omega (arith, h size refl)

  found_limit : {p : Span} → Bytes s → fine p ≡ found_in s → size_of p ≤ 65527
  found_limit {p} b e =
      let (x, f, k, z) = found_behind s e in
      let (at, h, i) = stopped_read s x f in
      rw z (name_limit x (λ size j. segment_small at x b h j))

pub jpeg_limit : (img : List ℕ) → Bytes img → {ps : List ℕ} → jpeg_block img ≡ fine ps → length ps ≤ 65527
unfolding jpeg_block
jpeg_limit img b {ps} e =
    let (u, f, g) = bind_fine (require (is_jpeg img) 31) _ (sym e) in
    let (p, h, i) = bind_fine (found_in img) _ g in
    let z : ps ≡ positions p.from (size_of p) = cc in
    rw (z, positions_length p.from (size_of p)) (found_limit img b h)
