-- No two outcomes, answer and buffer together, meet a contract of this crate.
use Rattle.std.specs.Prelude.{◌≡◌, ℕ, List, ◌++◌, length, take, drop}
use Rattle.std.proofs.Common.{sym, ◌∙◌}
use Rattle.rules.specs.Doc.Listing.{printed}
use Rattle.sheet_rules.specs.Doc.Sheet.{sheet}
use Rattle.text.specs.Unique.{text_one}
use Rattle.sheet.specs.Fronts.{OfEvery, of_front}

-- of `write_sheet`
pub sheet_one : (input out : List ℕ) {r r' : ℕ} {after after' : List ℕ} → (r ≡ length (sheet input)) × (after ≡ printed (sheet input) out)
    → (r' ≡ length (sheet input)) × (after' ≡ printed (sheet input) out) → (r ≡ r') × (after ≡ after')
sheet_one input out = text_one (sheet input) out

-- of `write_whole_sheet`
pub whole_one : (input out : List ℕ) {r r' : ℕ} {after after' : List ℕ} → (r ≡ length (sheet input)) × (after ≡ sheet input ++ drop r out)
    → (r' ≡ length (sheet input)) × (after' ≡ sheet input ++ drop r' out) → (r ≡ r') × (after ≡ after')
whole_one input out p q =
    let e = p.0 ∙ sym q.0 in
    (e, p.1 ∙ rw e (sym q.1))

-- of `write_front_sheet`
pub front_one : (front : List ℕ) (n : ℕ) (before : List ℕ) {r r' : ℕ} {after after' : List ℕ} → OfEvery front n before r after → OfEvery front n before r' after'
    → (r ≡ r') × (after ≡ after')
front_one front n before p q =
    let x = of_front front n p in
    let y = of_front front n q in
    whole_one (take n front) before (x.size, x.buffer) (y.size, y.buffer)
