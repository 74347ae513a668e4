-- The listing in the words of its two functions: a run of boxes one box at a time, and what one box has in it, without a count of steps; the text
-- of the lines apart from the last line.
use Rattle.std.specs.Prelude.{◌≡◌, ℕ, zero, suc, ◌+◌, ◌-◌, ◌≤◌, ◌<◌, List, [], ◌++◌, take, ltb, if◌then◌else◌}
use Rattle.std.proofs.Math.Path.{refl, ap}
use Rattle.std.proofs.Common.{sym, subst, ◌∙◌, arith, append_assoc, length-append, le-leb}
use Rattle.std.proofs.Math.Option.{Option, none, some}
use Rattle.std.proofs.Math.ListN.{length}
use Rattle.std.proofs.Math.Dec.{leb}
use Rattle.std.proofs.lemmas.Bool.{lt-leb}
use Rattle.rules.specs.Doc.Outcomes.{Outcome, fine, refused, ◌>>=◌}
use Rattle.rules.specs.Doc.Lists.{any}
use Rattle.rules.specs.Doc.Bytes.{size_of, bytes_in, version}
use Rattle.rules.specs.Doc.Headers.{meta, iinf, Box, is, child_at}
use Rattle.rules.specs.Doc.Iinf.{count_size}
use Rattle.rules.specs.Doc.Listing.{Listing, finished, fault, line, ◌then◌, holders, behind, behind_count, opening}
use Rattle.rules.specs.Doc.Listing.{listed_at, row_of, run_of, children_of, depth_over, open_box, list_run, line_text, text_of}
use Rattle.rules.specs.Laws.Rows.{by_test, enough}
use Rattle.rules.specs.Laws.Headers.{child_inside}

-- ---- Lines, and how they end

-- the text of the lines
unfoldable pub lines_text : Listing → List ℕ
lines_text finished = []
lines_text (fault at k) = []
lines_text (line x l) = line_text x ++ lines_text l

-- a listing without its lines
unfoldable pub ending : Listing → Listing
ending finished = finished
ending (fault at k) = fault at k
ending (line x l) = ending l

pub text_lines : (n : ℕ) (l : Listing) → text_of n l ≡ lines_text l ++ text_of n (ending l)
unfolding text_of lines_text ending
text_lines n finished = refl
text_lines n (fault at k) = refl
text_lines n (line x l) = rw (text_lines n l, append_assoc)

apart : {at k : ℕ} → finished ≡ fault at k → ⊥
apart e = let z : ◌≡◌ {A = ℕ} 0 1 = cc in omega arith

pub then_ending : (a b : Listing) → ending (a then b) ≡ (ending a then ending b)
unfolding ending ◌then◌
then_ending finished b = refl
then_ending (fault at k) b = refl
then_ending (line x a) b = then_ending a b

-- the lines of two listings in a row: of both, or of the first alone, where it ends in a fault
pub then_lines : (a b : Listing) → finished ≡ ending a → lines_text (a then b) ≡ lines_text a ++ lines_text b
unfolding ending ◌then◌ lines_text
then_lines finished b e = refl
then_lines (fault at k) b e = absurd (apart e)
then_lines (line x a) b e = rw (then_lines a b e, append_assoc)

pub fault_lines : (a b : Listing) {at k : ℕ} → fault at k ≡ ending a → lines_text (a then b) ≡ lines_text a
unfolding ending ◌then◌ lines_text
fault_lines finished b e = absurd (apart (sym e))
fault_lines (fault p j) b e = refl
fault_lines (line x a) b e = rw (fault_lines a b e)

pub then_longer : (a b : Listing) → length (lines_text a) ≤ length (lines_text (a then b))
unfolding ◌then◌ lines_text
then_longer finished b = omega arith
then_longer (fault at k) b = omega arith
then_longer (line x a) b = simp length-append (omega (arith, then_longer a b))

-- ---- A run of boxes

module _ (depth : ℕ) (inner : Box → Listing) (s : List ℕ) where
  at_cong : (at : ℕ) (o : Outcome Box) → o ≡ child_at s at → (f g : ℕ → Listing) → ((q : ℕ) → at < q → f q ≡ g q)
      → listed_at depth at o inner f ≡ listed_at depth at o inner g
  unfolding listed_at
  at_cong at (refused k) c f g e = refl
  at_cong at (fine b) c f g e =
      let i = child_inside s at c in
      rw (e b.body.to (omega arith))

  row_unroll : (at : ℕ) → row_of depth inner s (length s) at
      ≡ (if leb (length s) at then finished else listed_at depth at (child_at s at) inner (row_of depth inner s (length s)))
  unfolding row_of
  row_unroll at =
      enough (row_of depth inner s) (λ at. length s - at) (λ n at z. rw (le-leb (length s) at (omega arith)))
      (λ n m at e. ap (λ (l : Listing). if leb (length s) at then finished else l)
      (at_cong at (child_at s at) refl (row_of depth inner s n) (row_of depth inner s m) (λ q j. e q (omega arith))))
      (length s) (suc (length s)) at (omega arith) (omega arith)

module _ (levels : ℕ) (s : List ℕ) (at : ℕ) where
  unroll : list_run levels s at
      ≡ (if leb (length s) at then finished else listed_at (depth_over levels) at (child_at s at) (open_box levels s) (list_run levels s))
  unfolding list_run run_of
  unroll = row_unroll (depth_over levels) (open_box levels s) s at

  pub run_done : length s ≤ at → list_run levels s at ≡ finished
  run_done h = unroll ∙ rw (le-leb (length s) at h)

  pub run_next : at < length s → list_run levels s at ≡ listed_at (depth_over levels) at (child_at s at) (open_box levels s) (list_run levels s)
  run_next h = unroll ∙ rw (lt-leb (length s) at h)

-- ---- One box

module _ (s : List ℕ) (b : Box) where
  pub open_none : open_box 0 s b ≡ finished
  unfolding open_box
  open_none = refl

  pub open_more : (levels : ℕ) → open_box (suc levels) s b ≡ children_of b.start (opening s b) (list_run levels (take b.body.to s))
  unfolding open_box list_run
  open_more levels = refl

  pub open_fewer : (levels : ℕ) → (levels ≡ 0 → ⊥)
      → open_box levels s b ≡ children_of b.start (opening s b) (list_run (levels - 1) (take b.body.to s))
  open_fewer zero h = absurd (h refl)
  open_fewer (suc levels) h = let e : suc levels - 1 ≡ levels = omega arith in rw e (open_more levels)

-- ---- Where children start

-- what holds however many bytes stand before the children, of a version that is refused and of a leaf, holds of every box
pub by_opening : (P : Outcome (Option ℕ) → Type 0) (s : List ℕ) (b : Box)
    → ((n : ℕ) → P (behind n b)) → ((k : ℕ) → refused k ≡ version (bytes_in s b.body) 0 → P (refused k)) → P (fine none) → P (opening s b)
unfolding behind_count opening
by_opening P s b children cut leaf =
    by_test P (any (λ k. is k b) holders) (λ e. children 0)
    (λ e. by_test P (is meta b) (λ e. children 4) (λ e. by_test P (is iinf b) (λ e. counted (version (bytes_in s b.body) 0) refl) (λ e. leaf)))
  where
    counted : (v : Outcome ℕ) → v ≡ version (bytes_in s b.body) 0 → P (v >>= λ v. behind (4 + count_size v) b)
    counted (fine v) e = children (4 + count_size v)
    counted (refused k) e = cut k e

-- children that start in a body, or nothing that could lie elsewhere
abbrev Ahead : ℕ → Outcome (Option ℕ) → Type 0
Ahead start (refused k) = Unit {0}
Ahead start (fine none) = Unit {0}
Ahead start (fine (some from)) = start ≤ from

module _ (b : Box) where
  abbrev InBody : Outcome (Option ℕ) → Type 0
  InBody o = Ahead b.body.from o

  behind_ahead : (n : ℕ) → InBody (behind n b)
  unfolding behind
  behind_ahead n = by_test InBody (ltb (size_of b.body) n) (λ e. tt) (λ e. omega arith)

  opening_ahead : (s : List ℕ) → InBody (opening s b)
  opening_ahead s = by_opening InBody s b behind_ahead (λ k e. tt) tt

pub children_ahead : (s : List ℕ) (b : Box) {from : ℕ} → fine (some from) ≡ opening s b → b.body.from ≤ from
children_ahead s b e = subst (Ahead b.body.from) (sym e) (opening_ahead b s)
