-- The boxes of a walk that ended well stand in a row: each is read where the one before it ended. The same at any level.
use Rattle.std.specs.Prelude.{◌≡◌, Bool, true, false, List, [], ◌∷◌, length, leb, if◌then◌else◌}
use Rattle.std.proofs.Math.Path.{refl, subst}
use Rattle.std.proofs.Common.{sym, arith}
use Prim.Native.Nat.{ℕ, zero, suc, ◌+◌, ◌≤◌, ◌<◌}
use Rattle.std.proofs.Math.Option.{Option, none, some}
use borrow.Author.Tests.{leb-true, le-leb}
use Rattle.rules.specs.Doc.Outcomes.{Outcome, fine, refused, ◌>>=◌, given}
use Rattle.rules.specs.Doc.Walks.{onward, halt, Step, over, cut, met, End, ended, cut_at, refused_at, stopped_at, Walk, bare, walked, judged, after, run, outcome}
use Rattle.rules.specs.Doc.Headers.{Header, header_at, body_size, Box, box_with, whole, announced, box_at, child_at}
use Rattle.rules.specs.Doc.Levels.{Level, tested, said, decided, box_step, level_step, boxes}
use Rattle.rules.specs.Laws.Rows.{apart, bind_fine, there, by_test}
use Rattle.rules.specs.Laws.Headers.{Begins, begins, passed}

-- boxes that are read one behind the other, from `at` up to `to`
abbrev pub Row : (ℕ → Outcome Box) → ℕ → List Box → ℕ → Type 0
Row read at [] to = at ≡ to
Row read at (b ∷ bs) to = (fine b ≡ read at) × Row read b.body.to bs to

module _ (l : Level) (s : List ℕ) where
  -- the box that the level reads at a position
  abbrev pub read : ℕ → Outcome Box
  read at = box_at l.cut_number (l.fits (length s)) s at

  pub read_begins : (at : ℕ) {b : Box} → fine b ≡ read at → Begins (length s) at b
  read_begins at e = begins l.cut_number s at (passed l.cut_number (l.fits (length s)) s at e).0

  -- ---- One step

  -- what a step shows: that no byte is left, or the box that was read and where it leads
  abbrev pub Reads : ℕ → Step Box → Type 0
  Reads at over = length s ≤ at
  Reads at (cut n) = Unit {0}
  Reads at (met b (refused n)) = Unit {0}
  Reads at (met b (fine (onward next))) = (fine b ≡ read at) × (next ≡ b.body.to)
  Reads at (met b (fine halt)) = (fine b ≡ read at) × (l.ends b.kind ≡ true)

  -- it leads forward
  pub reads_ahead : (at next : ℕ) {b : Box} → Reads at (met b (fine (onward next))) → at < next
  reads_ahead at next p = let i = read_begins at p.0 in omega arith

  said_reads : (at : ℕ) (b : Box) (fit test : Outcome (Unit {0})) (t : Bool) → (fine tt ≡ fit → fine b ≡ read at) → l.ends b.kind ≡ t
      → Reads at (met b (fit >>= λ u. test >>= λ v. fine (if t then halt else onward b.body.to)))
  said_reads at b (refused n) test t r e = tt
  said_reads at b (fine u) (refused n) t r e = tt
  said_reads at b (fine u) (fine v) true r e = (r refl, e)
  said_reads at b (fine u) (fine v) false r e = (r refl, refl)

  size_reads : (at : ℕ) (h : Header) (o : Outcome ℕ) → some h ≡ header_at s at → o ≡ body_size (length s) h
      → Reads at (met (box_with h (decided o)) (o >>= λ size. said l s (box_with h size)))
  unfolding decided said box_at announced
  size_reads at h (refused n) e f = tt
  size_reads at h (fine size) e f =
      let b : Box = box_with h size in
      said_reads at b (l.fits (length s) b) (tested l s b) (l.ends b.kind) (λ p. rw (← e, ← f, ← p)) refl

  box_reads : (at : ℕ) (o : Option Header) → o ≡ header_at s at → Reads at (box_step l s o)
  unfolding box_step
  box_reads at none e = tt
  box_reads at (some h) e = size_reads at h (body_size (length s) h) e refl

  pub step_reads : (at : ℕ) → Reads at (level_step l s at)
  unfolding level_step
  step_reads at = by_test (Reads at) (leb (length s) at) (λ e. leb-true (length s) at e) (λ e. box_reads at (header_at s at) refl)

  -- ---- The walk

  -- where a walk ended: at the end of the bytes, or behind the box that ends it, whose body ends where it begins or later
  abbrev pub EndsAt : End Box → ℕ → Type 0
  EndsAt ended to = length s ≤ to
  EndsAt (cut_at n at) to = ⊥
  EndsAt (refused_at n b) to = ⊥
  EndsAt (stopped_at b) to = (to ≡ b.body.to) × (l.ends b.kind ≡ true) × (b.body.from ≤ b.body.to)

  -- the boxes of a walk stand in a row, up to where it ended
  abbrev InRow : ℕ → Walk Box → Type 0
  InRow at w = (to : ℕ) × Row read at w.list to × EndsAt w.end to

  after_row : (at : ℕ) (st : Step Box) (go : ℕ → Walk Box) → Reads at st
      → ((q : ℕ) → at < q → outcome (go q).end ≡ fine tt → InRow q (go q)) → outcome (after at st go).end ≡ fine tt → InRow at (after at st go)
  unfolding after judged walked bare outcome
  after_row at over go p later e = (at, refl, p)
  after_row at (cut n) go p later e = absurd (apart (sym e))
  after_row at (met b (refused n)) go p later e = absurd (apart (sym e))
  after_row at (met b (fine halt)) go p later e = (b.body.to, (p.0, refl), (refl, p.1, (read_begins at p.0).order))
  after_row at (met b (fine (onward next))) go p later e =
      let (to, r, x) = later next (reads_ahead at next p) e in
      (to, (p.0, subst (λ (q : ℕ). Row read q (go next).list to) p.1 r), x)

  run_row : (n at : ℕ) → length s ≤ at + n → outcome (run (level_step l s) n at).end ≡ fine tt → InRow at (run (level_step l s) n at)
  unfolding run bare
  run_row zero at h e = (at, refl, omega arith)
  run_row (suc n) at h e = after_row at (level_step l s at) (run (level_step l s) n) (step_reads at) (λ q k. run_row n q (omega arith)) e

  pub boxes_row : (at : ℕ) → outcome (boxes l s at).end ≡ fine tt → InRow at (boxes l s at)
  unfolding boxes
  boxes_row at e = run_row (length s) at (omega arith) e

-- ---- Whole boxes

-- boxes that any level reads in a row, up to a place inside the bytes, are whole boxes
module _ (l : Level) (s : List ℕ) where
  child_of : (at : ℕ) {b : Box} → fine b ≡ read l s at → b.body.to ≤ length s → fine b ≡ child_at s at
  unfolding announced child_at box_at whole
  child_of at {b} e h =
      let p = (passed l.cut_number (l.fits (length s)) s at e).0 in
      let (x, q, r) = bind_fine (given (header_at s at) l.cut_number) _ p in
      rw (there (header_at s at) l.cut_number q, ← r, whole, le-leb b.body.to (length s) h)

  pub row_whole : (at : ℕ) (bs : List Box) (to : ℕ) → Row (read l s) at bs to → to ≤ length s → (at ≤ to) × Row (child_at s) at bs to
  row_whole at [] to r h = (omega arith, r)
  row_whole at (b ∷ bs) to r h =
      let i = read_begins l s at r.0 in
      let (o, rest) = row_whole b.body.to bs to r.1 h in
      (omega arith, (child_of at r.0 (omega arith), rest))
