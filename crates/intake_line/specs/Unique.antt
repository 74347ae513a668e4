-- No two outcomes, answer and both buffers together, meet the contract of `file_line`. That of `print_line` leaves its answer open: what standard
-- output takes is not known to a contract.
use Rattle.std.specs.Prelude.{◌≡◌, ℕ, ◌≤◌, List, ◌++◌, length, drop}
use Rattle.std.proofs.Common.{sym, ◌∙◌}
use Rattle.jpeg_rules.specs.Doc.Either.{either_answer}
use Rattle.intake_line.specs.Line.{intake_text}

module _ (image block line : List ℕ) where
  -- the contract of `file_line`
  abbrev pub Line : ℕ → List ℕ → List ℕ → Type 0
  Line r after read =
      ((r ≡ length (intake_text image)) × (r ≤ 23)) × (after ≡ intake_text image ++ drop r line) × (read ≡ (either_answer image block).output)

  pub line_one : {r r' : ℕ} {after after' read read' : List ℕ} → Line r after read → Line r' after' read'
      → (r ≡ r') × (after ≡ after') × (read ≡ read')
  line_one {r} {r'} p q =
      let same : r ≡ r' = p.0.0 ∙ sym q.0.0 in
      (same, p.1 ∙ rw same (sym q.1), p.2 ∙ sym q.2)

  -- of `print_line`: the buffer of the block
  pub print_one : {read read' : List ℕ} → read ≡ (either_answer image block).output → read' ≡ (either_answer image block).output → read ≡ read'
  print_one e f = e ∙ sym f
