-- Where the body of a segment ends, if the image holds all of it.
use Rattle.std.specs.Prelude.{◌≡◌, List, ℕ, ◌+◌, ◌-◌, ◌≤◌, ◌<◌, length, leb}
use Rattle.std.proofs.Math.Option.{some}
use Rattle.std.proofs.Common.{arith, le-leb, leb-true}
use Rattle.std.proofs.lemmas.Bool.{lt-leb}
use Rattle.rules.specs.Doc.Outcomes.{Outcome, fine, refused, ◌>>=◌, require}
use Rattle.rules.specs.Doc.Bytes.{number_at}
use Rattle.rules.specs.Laws.Rows.{bind_fine, required}
use Rattle.rules.specs.Laws.Lies.{Lies}
use Rattle.jpeg_rules.specs.Doc.Segments.{length_at, length_test}

-- of a segment whose marker byte stands at a position, with that length
unfoldable pub sized_end : List ℕ → ℕ → ℕ → Outcome ℕ
sized_end s at size = do
  _ ← length_test (some size)
  _ ← require (leb (at + 1 + size) (length s)) 2
  fine (at + 1 + size)

-- the same, with the length that stands behind the marker byte
unfoldable pub body_end : List ℕ → ℕ → Outcome ℕ
body_end s at = length_at s at >>= sized_end s at

module _ (s : List ℕ) (at : ℕ) where
  pub end_unread : length s - at < 3 → refused 2 ≡ body_end s at
  unfolding body_end length_at
  end_unread h = rw (lt-leb (at + 3) (length s) (omega arith))

  module _ (h : 3 ≤ length s - at) {size : ℕ} (e : size ≡ number_at s (at + 1) 2) where
    end_read : body_end s at ≡ (require (leb 2 size) 33 >>= λ u. require (leb (at + 1 + size) (length s)) 2 >>= λ v. fine (at + 1 + size))
    unfolding body_end sized_end length_at length_test
    end_read = rw (le-leb (at + 3) (length s) (omega arith), ← e)

    pub end_small : size < 2 → refused 33 ≡ body_end s at
    end_small l = rw (end_read, lt-leb 2 size l)

    pub end_cut : 2 ≤ size → length s - at - 1 < size → refused 2 ≡ body_end s at
    end_cut l k = rw (end_read, le-leb 2 size l, lt-leb (at + 1 + size) (length s) (omega arith))

    pub end_whole : 2 ≤ size → size ≤ length s - at - 1 → fine (at + 1 + size) ≡ body_end s at
    end_whole l k = rw (end_read, le-leb 2 size l, le-leb (at + 1 + size) (length s) (omega arith))

-- an end that was given lies in the image, behind the length
pub end_lies : (s : List ℕ) (at : ℕ) {to : ℕ} → fine to ≡ body_end s at → Lies (length s) (record { from = at + 3; to = to })
unfolding body_end sized_end length_test
end_lies s at {to} e =
    let (size, f, e₁) = bind_fine (length_at s at) _ e in
    let (u, g, e₂) = bind_fine (require (leb 2 size) 33) _ e₁ in
    let (v, h, e₃) = bind_fine (require (leb (at + 1 + size) (length s)) 2) _ e₂ in
    let z : to ≡ at + 1 + size = cc in
    let i = leb-true 2 size (required _ 33 g) in
    let j = leb-true (at + 1 + size) (length s) (required _ 2 h) in
    record { order = omega arith; inner = omega arith }
