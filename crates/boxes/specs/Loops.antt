-- A box in a loop over boxes: what `Header::read` and then `child_box` say of it, and where it lies.
use Rattle.std.specs.Prelude.{◌≡◌, ℕ, ◌-◌, ◌≤◌, ◌<◌, List, length, Result, Ok, Err}
use Rattle.std.proofs.Common.{ap, ◌∙◌, arith}
use Rattle.rules.specs.Doc.Outcomes.{Outcome, fine, refused}
use Rattle.rules.specs.Doc.Bytes.{part, bytes_in}
use Rattle.rules.specs.Doc.Headers.{Box, box_of, whole, announced, standing, box_at, child_at}
use Rattle.rules.specs.Laws.Numbers.{bytes_in_is}
use Rattle.rules.specs.Laws.Headers.{child_inside}
use Rattle.boxes.specs.Told.{number, child}
use Rattle.boxes.specs.declared.refusal.Refusal.{Refusal}
use Rattle.boxes.specs.declared.level.Child.{Child}

-- in the bytes `s`, the whole box at a position: document 01's (`is`); a loop may take its body (`order`, `inner`, `bytes`) and goes on behind it,
-- with less left (`less`)
pub record WholeBox (s : List ℕ) (at kind from to : ℕ) : Type 0 where
  pub is : fine (box_of at kind from to) ≡ child_at s at
  pub order : from ≤ to
  pub inner : to ≤ length s
  pub less : length s - to < length s - at
  pub bytes : bytes_in s (record { from = from; to = to }) ≡ part s from (to - from)

-- the two calls together: the box that is announced, if it stands the test; a header that is cut inside a box is 3
pub together : (s : List ℕ) (at : ℕ) {a o : Outcome Box} → a ≡ announced 3 s at → o ≡ standing (whole 3 (length s)) a → o ≡ child_at s at
unfolding child_at box_at
together s at read tried = tried ∙ ap (standing (whole 3 (length s))) read

-- by what the two calls promise: `a` is what the header announces, `r` is the answer of `child_box`
module _ (s : List ℕ) (at : ℕ) {a : Outcome Box} {r : Result Child Refusal} (read : a ≡ announced 3 s at)
    (tried : child at r ≡ standing (whole 3 (length s)) a) where
  pub box_refused : {e : Refusal} → r ≡ Err e → refused (number e) ≡ child_at s at
  box_refused g = rw g at (together s at read tried)

  pub box_whole : {c : Child} → r ≡ Ok c → WholeBox s at c.kind c.from c.to
  box_whole g =
      let b = rw g at (together s at read tried) in
      let i = child_inside s at b in
      record { is = b; order = i.order; inner = i.inner; less = omega arith; bytes = bytes_in_is s _ i.inner }
