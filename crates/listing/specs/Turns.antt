-- One turn of a run, and one box, by what the code was told of them.
use Rattle.std.specs.Prelude.{◌≡◌, ℕ, ◌-◌, ◌<◌, List, length, take, Result, Ok, Err, Option, Some, None, IfOk}
use Rattle.std.specs.Result.{MatchResult, is_ok}
use Rattle.std.proofs.Common.{◌∙◌}
use Rattle.rules.specs.Doc.Headers.{Box, child_at}
use Rattle.rules.specs.Doc.Listing.{line_of, finished, fault, line, ◌then◌, opening, listed_at, children_of, depth_over, open_box, list_run}
use Rattle.rules.specs.Laws.Listing.{run_next, open_none, open_fewer}
use Rattle.boxes.specs.Told.{number}
use Rattle.boxes.specs.declared.refusal.Refusal.{Refusal}
use Rattle.listing.specs.declared.Fault.{Fault}
use Rattle.listing.specs.declared.found.Found.{Found}
use Rattle.listing.specs.Told.{box_in, found_of, starts}

-- what `map_err` leaves as it was
unmapped : {A D E : Type 0} (r : Result A E) (r' : Result A D) (Q : E → Type 0) {a : A}
    → MatchResult r (λ x. r' ≡ Ok x) Q → is_ok r' ≡ is_ok r → r' ≡ Ok a → r ≡ Ok a
unmapped (Ok x) r' Q m v e = cc
unmapped (Err x) r' Q m v e = cc

-- by what `Found::at` says
module _ (levels : ℕ) (s : List ℕ) (at : ℕ) (more : at < length s) (r : Result Found Refusal) (value : found_of r ≡ child_at s at) where
  pub turn_refused : {e : Refusal} → r ≡ Err e → list_run levels s at ≡ fault at (number e)
  unfolding listed_at
  turn_refused e = run_next levels s at more ∙ rw (← rw e at value)

  -- what is listed from a box on is its line, what stands in it, and the rest of the run
  pub turn_box : IfOk r (λ f. (f.s.now ≡ s) × (f.start ≡ at)) → (r' : Result Found Fault) (Q : Refusal → Type 0) {found : Found}
      → MatchResult r (λ x. r' ≡ Ok x) Q → is_ok r' ≡ is_ok r → r' ≡ Ok found
      → list_run levels s at
      ≡ line (line_of (depth_over levels) (box_in found)) (open_box levels found.s.now (box_in found) then list_run levels s found.child.to)
  unfolding listed_at
  turn_box place r' Q mapped variant ok =
      let e = unmapped r r' Q mapped variant ok in
      let p = rw e at place in
      rw p.0 (run_next levels s at more ∙ rw (← rw e at value))

module _ (levels : ℕ) (s : List ℕ) (b : Box) where
  pub box_deepest : levels ≡ 0 → open_box levels s b ≡ finished
  box_deepest e = rw e (open_none s b)

  module _ (not-deepest : levels ≡ 0 → ⊥) {x : Result (Option ℕ) Refusal} (told : starts x ≡ opening s b) where
    box_opened : (x' : Result (Option ℕ) Refusal) → x ≡ x' → open_box levels s b ≡ children_of b.start (starts x') (list_run (levels - 1) (take b.body.to s))
    box_opened x' e = rw (← e, told) (open_fewer s b levels not-deepest)

    pub box_leaf : x ≡ Ok None → open_box levels s b ≡ finished
    unfolding children_of
    box_leaf e = box_opened (Ok None) e

    pub box_short : {e : Refusal} → x ≡ Err e → open_box levels s b ≡ fault b.start (number e)
    unfolding children_of
    box_short {e} f = box_opened (Err e) f

    pub box_children : {from : ℕ} → x ≡ Ok (Some from) → open_box levels s b ≡ list_run (levels - 1) (take b.body.to s) from
    unfolding children_of
    box_children {from} e = box_opened (Ok (Some from)) e
