-- Steps in a row: what follows from how they ended, and that it doesn't matter how many are allowed, if they are enough.
use Rattle.std.specs.Prelude.{◌≡◌, refl, ℕ, zero, suc, ◌-◌, ◌≤◌, Bool, true, false, ◌&&◌, ◌||◌, T, if◌then◌else◌}
use Rattle.std.proofs.Common.{sym, arith, true≢false}
use Rattle.std.proofs.Math.Option.{Option, none, some}
use Rattle.rules.specs.Doc.Outcomes.{Outcome, fine, refused, ◌>>=◌, require, given}

pub apart : {A : Type 0} {a : A} {n : ℕ} → fine a ≡ refused n → ⊥
apart e = let z : ◌≡◌ {A = ℕ} 0 1 = cc in omega arith

-- a row of steps that ends fine went well at each step
pub bind_fine : {A B : Type 0} (o : Outcome A) (f : A → Outcome B) {b : B} → fine b ≡ (o >>= f) → (a : A) × (fine a ≡ o) × (fine b ≡ f a)
bind_fine (fine a) f e = (a, refl, e)
bind_fine (refused n) f e = absurd (apart e)

pub required : (t : Bool) (n : ℕ) → fine tt ≡ require t n → t ≡ true
required true n e = refl
required false n e = absurd (apart e)

pub there : {A : Type 0} {x : A} (o : Option A) (n : ℕ) → fine x ≡ given o n → o ≡ some x
there none n e = absurd (apart e)
there (some y) n e = cc

-- steps in a row are one row, however they are grouped
pub bind_assoc : {A B C : Type 0} (o : Outcome A) (f : A → Outcome B) (g : B → Outcome C) → ((o >>= f) >>= g) ≡ (o >>= λ x. f x >>= g)
bind_assoc (fine x) f g = refl
bind_assoc (refused n) f g = refl

-- what follows a step that went well may differ in how it is said
pub bind_known : {A B : Type 0} (o : Outcome A) {f g : A → Outcome B} → ((x : A) → o ≡ fine x → f x ≡ g x) → (o >>= f) ≡ (o >>= g)
bind_known (fine x) e = e x refl
bind_known (refused n) e = refl

pub bind_cong : {A B : Type 0} {f g : A → Outcome B} (o : Outcome A) → ((x : A) → f x ≡ g x) → (o >>= f) ≡ (o >>= g)
bind_cong o e = bind_known o (λ x f. e x)

-- two tests that both hold
pub both : (p q : Bool) → T (p && q) → T p × T q
both true q t = (tt, t)
both false q t = absurd t

pub both_true : (p q : Bool) → (p && q) ≡ true → (p ≡ true) × (q ≡ true)
both_true true q e = (refl, e)
both_true false q e = absurd (true≢false (sym e))

-- and two that both don't
pub neither : (p q : Bool) → (p || q) ≡ false → (p ≡ false) × (q ≡ false)
neither true q e = absurd (true≢false e)
neither false q e = (refl, e)

-- what holds of one thing or another, by a test
pub by_test : {A : Type 0} (P : A → Type 0) (t : Bool) {x y : A} → (t ≡ true → P x) → (t ≡ false → P y) → P (if t then x else y)
by_test P true p q = p refl
by_test P false p q = q refl

-- `f n a` takes at most n steps from a, and at most `size a` are left there: any two counts that are enough give the same
module _ {A B : Type 0} (f : ℕ → A → B) (size : A → ℕ) (over : (n : ℕ) (a : A) → size a ≡ 0 → f (suc n) a ≡ f zero a)
    (step : (n m : ℕ) (a : A) → ((x : A) → size x ≤ size a - 1 → f n x ≡ f m x) → f (suc n) a ≡ f (suc m) a) where
  pub enough : (n m : ℕ) (a : A) → size a ≤ n → size a ≤ m → f n a ≡ f m a
  enough zero zero a h k = refl
  enough zero (suc m) a h k = sym (over m a (omega arith))
  enough (suc n) zero a h k = over n a (omega arith)
  enough (suc n) (suc m) a h k = step n m a (λ x j. enough n m x (omega arith) (omega arith))
