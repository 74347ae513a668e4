-- No two outcomes, answer and both buffers together, meet the contract of `photo_line` or of `photo_line_whole`. That of `print_line` leaves its answer
-- open: what standard output takes is not known to a contract.
use Rattle.std.specs.Prelude.{◌≡◌, ℕ, ◌≤◌, List, ◌++◌, length, drop}
use Rattle.std.proofs.Common.{sym, ◌∙◌}
use Rattle.jpeg_rules.specs.Doc.Either.{either_answer}
use Rattle.rules.specs.Doc.Listing.{printed}
use Rattle.capture_rules.specs.Doc.Capture.{photo}
use Rattle.capture_rules.specs.Doc.Line.{line_text}

module _ (image block out : List ℕ) where
  -- the contract of `photo_line`, and that of `photo_line_whole`
  abbrev pub Line : ℕ → List ℕ → List ℕ → Type 0
  Line r after read = (r ≡ length (line_text (photo image block))) × (after ≡ printed (line_text (photo image block)) out) × (read ≡ (either_answer image block).output)

  abbrev pub Whole : ℕ → List ℕ → List ℕ → Type 0
  Whole r after read =
      ((r ≡ length (line_text (photo image block))) × (r ≤ 62)) × (after ≡ line_text (photo image block) ++ drop r out) × (read ≡ (either_answer image block).output)

  module _ {r r' : ℕ} {after after' read read' : List ℕ} where
    pub line_one : Line r after read → Line r' after' read' → (r ≡ r') × (after ≡ after') × (read ≡ read')
    line_one p q = (p.0 ∙ sym q.0, p.1 ∙ sym q.1, p.2 ∙ sym q.2)

    pub whole_one : Whole r after read → Whole r' after' read' → (r ≡ r') × (after ≡ after') × (read ≡ read')
    whole_one p q =
        let same : r ≡ r' = p.0.0 ∙ sym q.0.0 in
        (same, p.1 ∙ rw same (sym q.1), p.2 ∙ sym q.2)
