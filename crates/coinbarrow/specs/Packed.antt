-- From an answer of extraction to the number: a length fits into the lower half, so the halves say what the answer does.
use Rattle.std.specs.Prelude.{◌≡◌, refl, ℕ, ◌^◌, ◌≤◌, ◌<◌, List, [], Ok, Err}
use Rattle.std.proofs.Common.{ap, ◌∙◌, arith}
use Rattle.rules.specs.Doc.Answers.{Answer}
use Rattle.output.specs.Told.{Extracted, told}
use Rattle.output.specs.declared.NoBlock.TheVariants.{NoRoom, Refused}

-- what stands in the output has no say in number and length
length_told : (x : Extracted) (out more : List ℕ) → (told x out).length ≡ (told x more).length
length_told (Ok n) out more = refl
length_told (Err (NoRoom n)) out more = refl
length_told (Err (Refused e)) out more = refl

-- No block is longer than 65,531 bytes, so its length fits.
pub length_fits : (x : Extracted) (after : List ℕ) {a : Answer} → told x after ≡ a → a.length ≤ 65531 → (told x []).length < 2 ^ 32
length_fits x after {a} meets h =
    let z : (told x []).length ≡ a.length = length_told x [] after ∙ ap (λ (a : Answer). a.length) meets in
    omega arith
