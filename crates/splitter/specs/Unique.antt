-- No two outcomes meet a contract of this crate. Of bytes that are handed out or left it is said which they are, and not where they lie.
use Rattle.std.specs.Prelude.{◌≡◌, refl, ℕ, Bool, List, length, eqb, Result, Ok, Err, Option}
use Rattle.std.proofs.Common.{sym, ap, ap₂, ◌∙◌}
use Rattle.std.proofs.Math.Option as math
use Rattle.std.specs.Borrow.{Bor}
use Rattle.rules.specs.Doc.Outcomes.{Outcome, fine, refused}
use Rattle.rules.specs.Doc.Headers.{Box, child_at}
use Rattle.rules.specs.Laws.Back.{one}
use Rattle.rules.specs.Laws.Rows.{apart}
use Rattle.rules.specs.Results.{outcome, as_option, option_back}
use Rattle.boxes.specs.Told.{number, child, field_of}
use Rattle.boxes.specs.Unique.{refusal_one, refusal_result_one, as_child, child_back, field_one}
use Rattle.boxes.specs.declared.refusal.Refusal.{Refusal}
use Rattle.splitter.specs.Told.{held, sized_of, full_box_of, array4_of, piece_of, child_of}
use Rattle.splitter.specs.Children.{whole_children}
use Rattle.splitter.specs.declared.count.Counted.{Counted}
use Rattle.splitter.specs.declared.splitter.BoxSplitter.{BoxSplitter}

-- ---- What is told determines the answer

fine_same : {B : Type 0} {a b : B} → fine a ≡ fine b → a ≡ b
fine_same e = cc

refused_same : {B : Type 0} {m n : ℕ} → ◌≡◌ {A = Outcome B} (refused m) (refused n) → m ≡ n
refused_same e = cc

-- two answers that refuse for the same reason, or give what is the same
abbrev pub Alike : {A : Type 0} → (A → A → Type 0) → Result A Refusal → Result A Refusal → Type 0
Alike Same (Ok a) (Ok b) = Same a b
Alike Same (Err e) (Err f) = e ≡ f
Alike Same (Ok a) (Err f) = ⊥
Alike Same (Err e) (Ok b) = ⊥

alike : {A B : Type 0} (tell : A → B) {Same : A → A → Type 0} → ((a b : A) → tell a ≡ tell b → Same a b) → (x y : Result A Refusal)
    → outcome number tell x ≡ outcome number tell y → Alike Same x y
alike tell same (Ok a) (Ok b) e = same a b (fine_same e)
alike tell same (Err d) (Err f) e = refusal_one (refused_same e)
alike tell same (Ok a) (Err f) e = apart e
alike tell same (Err d) (Ok b) e = apart (sym e)

-- of a piece, the bytes
abbrev pub SamePiece : Result (Bor (List ℕ)) Refusal → Result (Bor (List ℕ)) Refusal → Type 0
SamePiece = Alike (λ p q. p.now ≡ q.now)

-- of a box, the type and the bytes of the body
abbrev pub SameChild : Result (ℕ × BoxSplitter) Refusal → Result (ℕ × BoxSplitter) Refusal → Type 0
SameChild = Alike (λ c d. (c.0 ≡ d.0) × (held c.1 ≡ held d.1))

-- ---- The methods that move on

-- what such a method's contract says of an answer and of the splitter after the call: what is told, and what is left
abbrev pub Meets : {A B : Type 0} → (A → B) → B → List ℕ → A → BoxSplitter → Type 0
Meets tell told left r after = (tell r ≡ told) × (held after ≡ left)

module _ {left : List ℕ} (after after' : BoxSplitter) where
  -- where what is told determines the answer, no two outcomes meet it
  moved_one : {A B : Type 0} (tell : A → B) (Same : A → A → Type 0) → ((x y : A) → tell x ≡ tell y → Same x y) → {told : B} (x y : A)
      → Meets tell told left x after → Meets tell told left y after' → Same x y × (held after ≡ held after')
  moved_one tell Same same x y p q = (same x y (p.0 ∙ sym q.0), p.1 ∙ sym q.1)

  -- of `uint16`, `uint32` and `uint64`
  pub number_one : {told : Outcome ℕ} (x y : Result ℕ Refusal)
      → Meets field_of told left x after → Meets field_of told left y after' → (x ≡ y) × (held after ≡ held after')
  number_one = moved_one field_of ◌≡◌ (λ x y e. field_one e refl)

  -- of `size048`
  pub sized_one : {told : Outcome (math.Option ℕ)} (x y : Result (Option ℕ) Refusal)
      → Meets sized_of told left x after → Meets sized_of told left y after' → (x ≡ y) × (held after ≡ held after')
  sized_one = moved_one sized_of ◌≡◌ (λ x y e. refusal_result_one _ (as_option (λ v. v) (λ v. v) (λ v. refl)) (option_back (λ v. v) (λ v. v) (λ v. refl)) e refl)

  -- of `fullbox_header`
  pub fullbox_one : {told : Outcome (ℕ × ℕ)} (x y : Result (ℕ × ℕ) Refusal)
      → Meets full_box_of told left x after → Meets full_box_of told left y after' → (x ≡ y) × (held after ≡ held after')
  fullbox_one = moved_one full_box_of ◌≡◌ (λ x y e. refusal_result_one _ (λ v. v) (λ v. refl) e refl)

  -- of `array4`
  pub array4_one : {told : Outcome (List ℕ)} (x y : Result (List ℕ) Refusal)
      → Meets array4_of told left x after → Meets array4_of told left y after' → (x ≡ y) × (held after ≡ held after')
  array4_one = moved_one array4_of ◌≡◌ (λ x y e. refusal_result_one _ (λ a. a) (λ a. refl) e refl)

  -- of `slice`
  pub piece_one : {told : Outcome (List ℕ)} (x y : Result (Bor (List ℕ)) Refusal)
      → Meets piece_of told left x after → Meets piece_of told left y after' → SamePiece x y × (held after ≡ held after')
  piece_one = moved_one piece_of SamePiece (alike (λ p. p.now) (λ p q e. e))

  -- of `child_box`
  pub child_box_one : {told : Outcome (ℕ × List ℕ)} (x y : Result (ℕ × BoxSplitter) Refusal)
      → Meets child_of told left x after → Meets child_of told left y after' → SameChild x y × (held after ≡ held after')
  child_box_one = moved_one child_of SameChild (alike _ (λ c d e. (ap (λ (p : ℕ × List ℕ). p.0) e, ap (λ (p : ℕ × List ℕ). p.1) e)))

-- ---- The others

-- of `new`; here it is said where the bytes lie too
pub new_one : (slice : Bor (List ℕ)) {x y : BoxSplitter} → x.inner ≡ slice → y.inner ≡ slice → x ≡ y
new_one slice e f = ap (λ s. record { inner = s }) (e ∙ sym f)

-- of `len`
pub len_one : (s : List ℕ) {x y : ℕ} → x ≡ length s → y ≡ length s → x ≡ y
len_one s e f = e ∙ sym f

-- of `is_empty`
pub empty_one : (s : List ℕ) {x y : Bool} → x ≡ eqb (length s) 0 → y ≡ eqb (length s) 0 → x ≡ y
empty_one s e f = e ∙ sym f

-- what `children` says, and the answer that says it
tell : Counted → Outcome Box × ℕ
tell r = (child 0 r.first, r.count)

as_counted : Outcome Box × ℕ → Counted
as_counted o = record { first = as_child o.0; count = o.1 }

counted_back : (r : Counted) → as_counted (tell r) ≡ r
unfolding tell as_counted
counted_back r = ap (λ x. record { first = x; count = r.count }) (child_back 0 r.first)

-- of `children`
pub children_one : (s : List ℕ) {x y : Counted} → (child 0 x.first ≡ child_at s 0) × (x.count ≡ whole_children s)
    → (child 0 y.first ≡ child_at s 0) × (y.count ≡ whole_children s) → x ≡ y
unfolding tell
children_one s e f = one tell as_counted counted_back (ap₂ (λ o n. (o, n)) e.0 e.1) (ap₂ (λ o n. (o, n)) f.0 f.1)
