-- No two outcomes meet the contract of `fill`. That of `next_case` says what a case took of the input where the input's bytes are known (`Taken`).
-- Those of standard input are not, and then it determines neither the answer nor the bytes of the image.
use Rattle.std.specs.Prelude.{◌≡◌, List, ℕ, length, replicate}
use Rattle.std.proofs.Common.{sym, ◌∙◌}

pub fill_one : (byte : ℕ) (before : List ℕ) {after after' : List ℕ} → after ≡ replicate (length before) byte → after' ≡ replicate (length before) byte
    → after ≡ after'
fill_one byte before e f = e ∙ sym f
