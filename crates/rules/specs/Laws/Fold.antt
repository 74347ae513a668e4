-- What a walk over boxes comes to, box by box: one equation at any level for a loop of the code to follow.
use Rattle.std.specs.Prelude.{◌≡◌, ℕ, suc, ◌≤◌, ◌<◌, Bool, List, [], ◌∷◌, length, if◌then◌else◌}
use Rattle.std.proofs.Math.Path.{refl, sym, ap}
use Rattle.std.proofs.Common.{◌∙◌, le-leb}
use Rattle.std.proofs.Math.Bool.{true, false}
use Rattle.std.proofs.Math.Option.{Option, none, some}
use Rattle.std.proofs.lemmas.Bool.{lt-leb}
use Rattle.rules.specs.Doc.Outcomes.{Outcome, fine, refused, ◌>>=◌, given}
use Rattle.rules.specs.Doc.Walks.{onward, halt, End, ended, cut_at, refused_at, stopped_at, Walk, bare, walked, judged, after, run, outcome}
use Rattle.rules.specs.Doc.Headers.{ftyp, Header, header_at, body_size, Box, box_with, is, whole, skips, announced, box_at, child_at, file_box_at}
use Rattle.rules.specs.Doc.Levels.{Level, tested, said, decided, box_step, level_step, boxes, counted_boxes, inside}
use Rattle.rules.specs.Doc.Ftyp.{top_fits, stopped}
use Rattle.rules.specs.Laws.Rows.{bind_assoc, bind_cong}
use Rattle.rules.specs.Laws.Unroll.{boxes_unroll}

-- the state after the things of a list, each in its turn
unfoldable pub folded : {S A : Type 0} → (S → A → S) → S → List A → S
folded f st [] = st
folded f st (x ∷ xs) = folded f (f st x) xs

-- what the walk's end makes of that state: `done` at the end of the bytes, `halted` at the box that ended the walk
unfoldable pub ending : {S R : Type 0} → (S → Outcome R) → (S → Box → Outcome R) → S → End Box → Outcome R
ending done halted st ended = done st
ending done halted st (cut_at n at) = refused n
ending done halted st (refused_at n b) = refused n
ending done halted st (stopped_at b) = halted st b

unfoldable pub closed : {S R : Type 0} → (S → Box → S) → (S → Outcome R) → (S → Box → Outcome R) → S → Walk Box → Outcome R
closed f done halted st w = ending done halted (folded f st w.list) w.end

module _ {S R : Type 0} (f : S → Box → S) (done : S → Outcome R) (halted : S → Box → Outcome R) (l : Level) (s : List ℕ) where
  -- after a box: the end of the walk, or the boxes after it
  unfoldable pub onwards : S → (ℕ → Walk Box) → Box → Outcome R
  onwards st go b = if l.ends b.kind then halted (f st b) b else closed f done halted (f st b) (go b.body.to)

  -- a box of which all that is said is known
  said_next : (st : S) (go : ℕ → Walk Box) (b : Box) (fit test : Outcome (Unit {0})) (t : Bool)
      → closed f done halted st (walked b (judged b (fit >>= λ u. test >>= λ v. fine (if t then halt else onward b.body.to)) go))
      ≡ (fit >>= λ u. test >>= λ v. if t then halted (f st b) b else closed f done halted (f st b) (go b.body.to))
  unfolding closed ending folded walked judged bare
  said_next st go b (refused n) test t = refl
  said_next st go b (fine u) (refused n) t = refl
  said_next st go b (fine u) (fine v) true = refl
  said_next st go b (fine u) (fine v) false = refl

  -- what follows a box of the level, from the decision over its size on
  size_next : (st : S) (go : ℕ → Walk Box) (h : Header) (o : Outcome ℕ)
      → closed f done halted st (walked (box_with h (decided o)) (judged (box_with h (decided o)) (o >>= λ size. said l s (box_with h size)) go))
      ≡ ((o >>= λ size. fine (box_with h size)) >>= (λ b. l.fits (length s) b >>= λ u. fine b) >>= λ b. tested l s b >>= λ u. onwards st go b)
  unfolding closed ending folded walked judged bare decided said onwards
  size_next st go h (refused n) = refl
  size_next st go h (fine size) =
      let b : Box = box_with h size in
      said_next st go b (l.fits (length s) b) (tested l s b) (l.ends b.kind)
      ∙ sym (bind_assoc (l.fits (length s) b) (λ u. fine b) (λ b. tested l s b >>= λ u. onwards st go b))

  step_next : (st : S) (at : ℕ) (go : ℕ → Walk Box) (o : Option Header)
      → closed f done halted st (after at (box_step l s o) go)
      ≡ ((given o l.cut_number >>= λ h. body_size (length s) h >>= λ size. fine (box_with h size)) >>= (λ b. l.fits (length s) b >>= λ u. fine b)
      >>= λ b. tested l s b >>= λ u. onwards st go b)
  unfolding after box_step closed ending bare
  step_next st at go none = refl
  step_next st at go (some h) = size_next st go h (body_size (length s) h)

  -- The boxes from a position: a box of the level, the test of what is opened, and then the boxes after it.
  pub level_next : (st : S) (at : ℕ) → at < length s
      → closed f done halted st (boxes l s at) ≡ (box_at l.cut_number (l.fits (length s)) s at >>= λ b. tested l s b >>= λ u. onwards st (boxes l s) b)
  unfolding level_step box_at announced
  level_next st at k = ap (closed f done halted st) (boxes_unroll l s at) ∙ rw (lt-leb (length s) at k) (step_next st at (boxes l s) (header_at s at))

  pub level_done : (st : S) (at : ℕ) → length s ≤ at → closed f done halted st (boxes l s at) ≡ done st
  unfolding level_step after bare closed ending folded
  level_done st at k = ap (closed f done halted st) (boxes_unroll l s at) ∙ rw (le-leb (length s) at k)

  -- The same of a count of boxes: one of them, and then the others. The bytes need not end where the count does.
  counted_next : (st : S) (n at : ℕ)
      → closed f done halted st (counted_boxes l s (suc n) at)
      ≡ (box_at l.cut_number (l.fits (length s)) s at >>= λ b. tested l s b >>= λ u. onwards st (counted_boxes l s n) b)
  unfolding counted_boxes run box_at announced
  counted_next st n at = step_next st at (counted_boxes l s n) (header_at s at)

  counted_done : (st : S) (at : ℕ) → closed f done halted st (counted_boxes l s 0 at) ≡ done st
  unfolding counted_boxes run bare closed ending folded
  counted_done st at = refl

-- ---- What a walk inside a box leaves

-- the state that a walk leaves, or the refusal that ends it
unfoldable pub leaves : {S : Type 0} → (S → Box → S) → S → Walk Box → Outcome S
leaves f st w = outcome w.end >>= λ u. fine (folded f st w.list)

leaves_closed : {S : Type 0} (f : S → Box → S) (st : S) (w : Walk Box) → leaves f st w ≡ closed f fine (λ st b. fine st) st w
unfolding leaves closed ending outcome
leaves_closed {S} f st w = go (folded f st w.list) w.end
  where
    go : (st : S) (e : End Box) → (outcome e >>= λ u. fine st) ≡ ending fine (λ st b. fine st) st e
    go st ended = refl
    go st (cut_at n at) = refl
    go st (refused_at n b) = refl
    go st (stopped_at b) = refl

-- `read` reads a box as it is met: it refuses what the level's test refuses, and else does what the fold does
module _ {S : Type 0} (f : S → Box → S) (opens : ℕ → Bool) (test : List ℕ → Outcome (Unit {0})) (s : List ℕ)
    (read : S → Box → Outcome S) (agree : (st : S) (b : Box) → read st b ≡ (tested (inside opens test) s b >>= λ u. fine (f st b))) where
  abbrev l : Level
  l = inside opens test

  -- a box, what is read of it, and then the boxes after it
  unfoldable pub read_next : S → (ℕ → Walk Box) → Box → Outcome S
  read_next st go b = read st b >>= λ st. leaves f st (go b.body.to)

  read_next_is : (st : S) (go : ℕ → Walk Box) (b : Box)
      → (tested l s b >>= λ u. onwards f fine (λ st b. fine st) l s st go b) ≡ read_next st go b
  unfolding read_next onwards inside
  read_next_is st go b =
      rw (agree st b)
      (bind_cong (tested l s b) (λ u. sym (leaves_closed f (f st b) (go b.body.to)))
      ∙ sym (bind_assoc (tested l s b) (λ u. fine (f st b)) (λ st. leaves f st (go b.body.to))))

  pub children_next : (st : S) (at : ℕ) → at < length s → leaves f st (boxes l s at) ≡ (child_at s at >>= read_next st (boxes l s))
  unfolding child_at inside
  children_next st at k =
      leaves_closed f st (boxes l s at) ∙ level_next f fine (λ st b. fine st) l s st at k ∙ bind_cong (child_at s at) (read_next_is st (boxes l s))

  pub children_done : (st : S) (at : ℕ) → length s ≤ at → leaves f st (boxes l s at) ≡ fine st
  children_done st at k = leaves_closed f st (boxes l s at) ∙ level_done f fine (λ st b. fine st) l s st at k

  pub counted_children_next : (st : S) (n at : ℕ) → leaves f st (counted_boxes l s (suc n) at) ≡ (child_at s at >>= read_next st (counted_boxes l s n))
  unfolding child_at inside
  counted_children_next st n at =
      leaves_closed f st (counted_boxes l s (suc n) at) ∙ counted_next f fine (λ st b. fine st) l s st n at
      ∙ bind_cong (child_at s at) (read_next_is st (counted_boxes l s n))

  pub counted_children_done : (st : S) (at : ℕ) → leaves f st (counted_boxes l s 0 at) ≡ fine st
  counted_children_done st at = leaves_closed f st (counted_boxes l s 0 at) ∙ counted_done f fine (λ st b. fine st) l s st at

-- ---- The box that ends a walk

stopped_closed : (e : End Box) (st : Unit {0}) → stopped e ≡ ending (λ u. refused 1) (λ u b. fine b) st e
unfolding stopped ending
stopped_closed ended st = refl
stopped_closed (cut_at n at) st = refl
stopped_closed (refused_at n b) st = refl
stopped_closed (stopped_at b) st = refl

module _ (l : Level) (s : List ℕ) where
  -- the box that ends the walk from a position
  unfoldable pub stop_from : ℕ → Outcome Box
  stop_from at = stopped (boxes l s at).end

  stop_closed : (at : ℕ) → stop_from at ≡ closed (λ u b. tt) (λ u. refused 1) (λ u b. fine b) (tt {0}) (boxes l s at)
  unfolding stop_from closed
  stop_closed at = stopped_closed (boxes l s at).end (folded (λ u b. tt) tt (boxes l s at).list)

  pub stop_next : (at : ℕ) → at < length s
      → stop_from at ≡ (box_at l.cut_number (l.fits (length s)) s at >>= λ b. tested l s b >>= λ u. if l.ends b.kind then fine b else stop_from b.body.to)
  unfolding onwards
  stop_next at k =
      stop_closed at ∙ level_next (λ u b. tt) (λ u. refused 1) (λ u b. fine b) l s tt at k
      ∙ bind_cong (box_at l.cut_number (l.fits (length s)) s at)
      (λ b. bind_cong (tested l s b) (λ u. ap (λ (o : Outcome Box). if l.ends b.kind then fine b else o) (sym (stop_closed b.body.to))))

  pub stop_done : (at : ℕ) → length s ≤ at → stop_from at ≡ refused 1
  stop_done at k = stop_closed at ∙ level_done (λ u b. tt) (λ u. refused 1) (λ u b. fine b) l s tt at k

-- ---- The two levels

-- the top level asks of a box what `file_box_at` asks, and then that an `ftyp` fits; inside a box, `child_at` is all that is asked
pub top_box : (s : List ℕ) (at : ℕ)
    → box_at 2 (top_fits (length s)) s at ≡ (file_box_at s at >>= λ b. (if is ftyp b then whole 2 (length s) b else fine tt) >>= λ u. fine b)
unfolding file_box_at box_at top_fits
top_box s at =
    bind_cong (announced 2 s at) (λ b. bind_assoc (skips b) (λ u. asked b) (λ u. fine b) ∙ sym (bind_assoc (skips b) (λ u. fine b) whole_then))
    ∙ sym (bind_assoc (announced 2 s at) (λ b. skips b >>= λ u. fine b) whole_then)
  where
    asked : Box → Outcome (Unit {0})
    asked b = if is ftyp b then whole 2 (length s) b else fine tt

    whole_then : Box → Outcome Box
    whole_then b = asked b >>= λ u. fine b
