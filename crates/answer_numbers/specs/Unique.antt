-- No two outcomes meet the contract of `put_answer`.
use Rattle.std.specs.Prelude.{◌≡◌, ℕ, List, []}
use Rattle.output.specs.Told.{Extracted, told}
use Rattle.output.specs.Copied.{Copied}
use Rattle.output.specs.Unique.{put_one}
use Rattle.answer_numbers.specs.Numbers.{numbers_text}

-- the contract of `put_answer`
abbrev pub Numbers : Extracted → List ℕ → ℕ → List ℕ → Type 0
Numbers answer before r after = (out : List ℕ) → Copied (numbers_text (told answer out).number (told answer out).length) 0 before r after

pub numbers_one : (answer : Extracted) (before : List ℕ) {r r' : ℕ} {after after' : List ℕ}
    → Numbers answer before r after → Numbers answer before r' after' → (r ≡ r') × (after ≡ after')
numbers_one answer before p q = put_one (p []) (q [])
