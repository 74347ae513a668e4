-- What a splitter said of the first box, and what it has left, tell where that box stands and how many there are.
use Rattle.std.specs.Prelude.{◌≡◌, List}
use Rattle.std.proofs.Common.{sym, ◌∙◌, length-drop}
use Rattle.std.proofs.Math.Path.{ap}
use Prim.Native.Nat.{ℕ, suc, ◌+◌, ◌-◌, ◌<◌}
use native.Mathlib.Omega.{arith}
use Rattle.std.proofs.Math.ListN.{length, drop}
use Rattle.rules.specs.Doc.Outcomes.{Outcome, fine, refused, ◌>>=◌}
use Rattle.rules.specs.Doc.Bytes.{bytes_in}
use Rattle.rules.specs.Doc.Headers.{Box, box_of, child_at}
use Rattle.rules.specs.Laws.Rows.{apart, bind_fine}
use Rattle.rules.specs.Laws.Numbers.{part_length, bytes_in_is}
use Rattle.rules.specs.Laws.Headers.{child_inside}
use Rattle.splitter.specs.Front.{child_box_at}
use Rattle.splitter.specs.Behind.{behind_box}
use Rattle.splitter.specs.Children.{whole_children}
use Rattle.splitter.specs.Counting.{whole_next, whole_moved, whole_refused}
use Rattle.splitter.specs.Left.{box_whole, same_box}

-- the box at the front of s, of the type `kind`, with that body and before that rest: where it stands is told by how many bytes there are of each
-- (`is`), and it is one more than there are in the rest (`counts`)
pub record FrontBox (s : List ℕ) (kind : ℕ) (body rest : List ℕ) : Type 0 where
  pub is : fine (box_of 0 kind (length s - length rest - length body) (length s - length rest)) ≡ child_at s 0
  pub fits : length body + length rest < length s
  pub counts : suc (whole_children rest) ≡ whole_children s

module _ (s : List ℕ) where
  read_whole : (b : Box) → fine b ≡ child_at s 0 → {kind : ℕ} {body rest : List ℕ} → kind ≡ b.kind → body ≡ bytes_in s b.body → rest ≡ drop b.body.to s
      → FrontBox s kind body rest
  unfolding whole_children
  read_whole b e {kind} {body} {rest} k t r =
      let i = child_inside s 0 e in
      let from : ℕ = b.body.from in
      let to : ℕ = b.body.to in
      let n : length rest ≡ length s - to = rw r (length-drop to s) in
      let m : length body ≡ to - from = rw (t, bytes_in_is s b.body i.inner) (part_length s b.body i.inner) in
      let f : length s - length rest - length body ≡ from = omega arith in
      let g : length s - length rest ≡ to = omega arith in
      let same : box_of 0 kind (length s - length rest - length body) (length s - length rest) ≡ b = rw (f, g, k, ← i.starts) in
      record {
        is = ap fine same ∙ e;
        fits = omega arith;
        counts = rw (whole_next s 0 e, whole_moved to s i.inner, r);
      }

  -- by what the splitter said of it, and what is left
  pub front_whole : {kind : ℕ} {body rest : List ℕ} → ◌≡◌ {A = Outcome (ℕ × List ℕ)} (fine (kind, body)) (child_box_at s 0) → rest ≡ behind_box s 0 → FrontBox s kind body rest
  unfolding child_box_at
  front_whole {kind} {body} {rest} told left =
      let (b, e, f) = bind_fine (child_at s 0) (λ b. fine (b.kind, bytes_in s b.body)) told in
      let same = same_box f in
      read_whole b e same.0 same.1 (left ∙ box_whole s (sym e))

  -- a box of which nothing is told is refused, and none is counted
  pub front_refused : {n : ℕ} → refused n ≡ child_box_at s 0 → refused n ≡ child_at s 0
  unfolding child_box_at
  front_refused {n} told = go (child_at s 0) told
    where
      go : (o : Outcome Box) → ◌≡◌ {A = Outcome (ℕ × List ℕ)} (refused n) (o >>= λ b. fine (b.kind, bytes_in s b.body)) → refused n ≡ o
      go (fine b) e = absurd (apart (sym e))
      go (refused m) e = let z : n ≡ m = cc in rw z

  pub none_counted : {n : ℕ} → refused n ≡ child_box_at s 0 → whole_children s ≡ 0
  unfolding whole_children
  none_counted told = whole_refused s 0 (front_refused told)
