-- A line of the shape is the line of what it says, and the line of what is allowed is of the shape: so `entry_in` says what the request says. How long
-- such a line can be.
use Rattle.std.specs.Prelude.{◌≡◌, refl, ℕ, ◌≤◌, Bool, true, false, ◌&&◌, ◌||◌, ◌⊎◌, List, [], ◌∷◌, length, leb, eqb, if◌then◌else◌}
use Rattle.std.proofs.Common.{arith, inl, inr, length-append, leb-true, eqb-true, le-leb, eq-eqb}
use Rattle.std.proofs.Math.Option.{none, some}
use Rattle.rules.specs.Doc.Lists.{same}
use Rattle.rules.specs.Laws.Text.{two_digits, five_digits}
use Rattle.rules.specs.Laws.Rows.{both_true}
use Rattle.sheet_rules.specs.Doc.Rows.{row_text}
use Rattle.sheet_rules.specs.Doc.Lines.{Entry, line_names, line_text, allowed, entry_of, entry_in}
use Rattle.sheet_rules.specs.Laws.Same.{same_is, same_self}
use Rattle.sheet_rules.specs.Laws.Rows.{line_names_is, numbers_back, Flat, row_flat}

-- ---- What is allowed

pub record Allowed (e : Entry) : Type 0 where
  pub answer : e.answer ≤ 99
  pub length : e.length ≤ 65535
  pub beside : (e.answer ≡ 0) ⊎ (e.length ≡ 0)

either_zero : (a n : ℕ) → (eqb a 0 || eqb n 0) ≡ true → (a ≡ 0) ⊎ (n ≡ 0)
either_zero a n e = go (eqb a 0) refl e
  where
    go : (t : Bool) → eqb a 0 ≡ t → (t || eqb n 0) ≡ true → (a ≡ 0) ⊎ (n ≡ 0)
    go true f e = inl (eqb-true a 0 f)
    go false f e = inr (eqb-true n 0 e)

pub allowed_is : (e : Entry) → allowed e ≡ true → Allowed e
unfolding allowed
allowed_is e h =
    let (p, z) = both_true (leb e.answer 99 && leb e.length 65535) (eqb e.answer 0 || eqb e.length 0) h in
    let (a, n) = both_true (leb e.answer 99) (leb e.length 65535) p in
    record { answer = leb-true _ _ a; length = leb-true _ _ n; beside = either_zero e.answer e.length z }

pub is_allowed : (e : Entry) → Allowed e → allowed e ≡ true
unfolding allowed
is_allowed e h = rw (le-leb e.answer 99 h.answer, le-leb e.length 65535 h.length) (go h.beside)
  where
    go : (e.answer ≡ 0) ⊎ (e.length ≡ 0) → (eqb e.answer 0 || eqb e.length 0) ≡ true
    go (inl z) = rw (eq-eqb e.answer 0 z)
    go (inr z) = go2 (eqb e.answer 0)
      where
        go2 : (t : Bool) → (t || eqb e.length 0) ≡ true
        go2 true = refl
        go2 false = eq-eqb e.length 0 z

-- ---- The shape

entry_back : (e : Entry) → entry_of (line_text e) ≡ e
unfolding entry_of line_text line_names
entry_back e = rw (numbers_back line_names line_names_is (e.answer ∷ e.length ∷ []) refl)

pub line_read : (e : Entry) → Allowed e → entry_in (line_text e) ≡ some e
unfolding entry_in
line_read e h = rw (entry_back e, same_self (line_text e), is_allowed e h)

pub record LineOf (l : List ℕ) (e : Entry) : Type 0 where
  pub is : l ≡ line_text e
  pub allows : Allowed e

pub line_is : (l : List ℕ) {e : Entry} → entry_in l ≡ some e → LineOf l e
unfolding entry_in
line_is l {e} f = go (same l (line_text (entry_of l)) && allowed (entry_of l)) refl f
  where
    go : (t : Bool) → (same l (line_text (entry_of l)) && allowed (entry_of l)) ≡ t → (if t then some (entry_of l) else none) ≡ some e → LineOf l e
    go true h g =
        let (p, q) = both_true (same l (line_text (entry_of l))) (allowed (entry_of l)) h in
        let z : entry_of l ≡ e = cc in
        rw (← z) (record { is = same_is l (line_text (entry_of l)) p; allows = allowed_is (entry_of l) q })
    go false h g = absurd (let z : ◌≡◌ {A = ℕ} 0 1 = cc in omega arith)

pub line_flat : (e : Entry) → Flat (line_text e)
unfolding line_text
line_flat e = row_flat line_names line_names_is (e.answer ∷ e.length ∷ [])

-- ---- How long a line is

-- Seven letters, two digits, eight letters, five digits and the newline.
pub line_limit : (e : Entry) → Allowed e → length (line_text e) ≤ 23
unfolding line_text line_names row_text
line_limit e h =
    let a = two_digits e.answer (omega (arith, h.answer)) in
    let n = five_digits e.length (omega (arith, h.length)) in
    simp length-append (omega (arith, a, n))

pub line_some : (e : Entry) → 1 ≤ length (line_text e)
unfolding line_text line_names row_text
line_some e = omega arith
