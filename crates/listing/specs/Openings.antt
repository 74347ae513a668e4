-- Which boxes are opened, by the numbers that the types' letters are.
use Rattle.std.specs.Prelude.{◌≡◌, ◌≢◌, ℕ, ◌⊎◌, List}
use Rattle.std.proofs.Math.Option.{Option, none}
use Rattle.std.proofs.Math.Logic.{⊎_elim}
use Rattle.std.proofs.lemmas.Bool.{ne_eqb}
use Rattle.rules.specs.Doc.Outcomes.{Outcome, fine}
use Rattle.rules.specs.Doc.Lists.{any}
use Rattle.rules.specs.Doc.Bytes.{number_at}
use Rattle.rules.specs.Doc.Headers.{Box}
use Rattle.rules.specs.Doc.Listing.{holders, behind, behind_count, opening}

module _ (s : List ℕ) (b : Box) where
  module _ {o : Outcome (Option ℕ)} where
    pub opening_holder : (b.kind ≡ 0x64696e66) ⊎ (b.kind ≡ 0x6970636f) ⊎ (b.kind ≡ 0x69707270) ⊎ (b.kind ≡ 0x6d646961) ⊎ (b.kind ≡ 0x6d696e66)
        ⊎ (b.kind ≡ 0x6d6f6f76) ⊎ (b.kind ≡ 0x7374626c) ⊎ (b.kind ≡ 0x7472616b) → o ≡ behind 0 b → o ≡ opening s b
    unfolding any holders number_at opening
    opening_holder h e =
        rw e
        (⊎_elim (λ k. rw k)
        (⊎_elim (λ k. rw k) (⊎_elim (λ k. rw k) (⊎_elim (λ k. rw k) (⊎_elim (λ k. rw k) (⊎_elim (λ k. rw k) (⊎_elim (λ k. rw k) (λ k. rw k)))))))
        h)

    pub opening_meta : b.kind ≡ 0x6d657461 → o ≡ behind 4 b → o ≡ opening s b
    unfolding any holders number_at opening
    opening_meta k e = rw (e, k)

    pub opening_iinf : b.kind ≡ 0x69696e66 → o ≡ behind_count s b → o ≡ opening s b
    unfolding any holders number_at opening
    opening_iinf k e = rw (e, k)

  pub opening_none : b.kind ≢ 0x6d6f6f76 → b.kind ≢ 0x7472616b → b.kind ≢ 0x6d646961 → b.kind ≢ 0x6d696e66 → b.kind ≢ 0x64696e66
      → b.kind ≢ 0x7374626c → b.kind ≢ 0x69707270 → b.kind ≢ 0x6970636f → b.kind ≢ 0x6d657461 → b.kind ≢ 0x69696e66 → fine none ≡ opening s b
  unfolding any holders number_at opening
  opening_none p q r t u v w x y z =
      let k = b.kind in
      rw (ne_eqb k _ p, ne_eqb k _ q, ne_eqb k _ r, ne_eqb k _ t, ne_eqb k _ u, ne_eqb k _ v, ne_eqb k _ w, ne_eqb k _ x, ne_eqb k _ y, ne_eqb k _ z)
