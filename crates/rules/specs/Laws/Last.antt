-- "The last one is kept": what is said over a whole list equals a state that each thing of the list changes in its turn.
use Rattle.std.specs.Prelude.{◌≡◌, Bool, if◌then◌else◌}
use Rattle.std.proofs.Math.Path.{refl, sym, ap}
use Rattle.std.proofs.Common.{◌∙◌}
use Rattle.std.proofs.Math.Bool.{true, false}
use Rattle.std.proofs.Math.Option.{Option, none, some, map}
use mathlib.Core.List.{List, [], ◌∷◌, ◌++◌}
use Rattle.rules.specs.Doc.Lists.{only, last_of, each}
use Rattle.rules.specs.Laws.Fold.{folded}

-- what is there, else another
abbrev pub or_else : {A : Type 0} → Option A → Option A → Option A
or_else none d = d
or_else (some x) d = some x

-- keep the last one of which p holds
unfoldable pub keep : {A B : Type 0} → (A → Bool) → (A → B) → Option B → A → Option B
keep p r d x = if p x then some (r x) else d

-- the last of a list is the last of its rest, else its first
last_there : {A : Type 0} (d x : A) (xs : List A) → last_of (x ∷ xs) ≡ or_else (last_of (x ∷ xs)) (some d)
unfolding last_of
last_there d x [] = refl
last_there d x (y ∷ ys) = last_there d y ys

last_cons : {A : Type 0} (x : A) (xs : List A) → last_of (x ∷ xs) ≡ or_else (last_of xs) (some x)
unfolding last_of
last_cons x [] = refl
last_cons x (y ∷ ys) = last_there x y ys

module _ {A B : Type 0} (p : A → Bool) (r : A → B) where
  or_option_map : (o : Option A) (x : A) (d : Option B) → or_else (map r (or_else o (some x))) d ≡ or_else (map r o) (some (r x))
  or_option_map none x d = refl
  or_option_map (some y) x d = refl

  -- the last of what is still to come, else what the state holds
  pub keep_last : (d : Option B) (xs : List A) → folded (keep p r) d xs ≡ or_else (map r (last_of (only p xs))) d
  unfolding folded only keep last_of
  keep_last d [] = refl
  keep_last d (x ∷ xs) = keep_last (keep p r d x) xs ∙ go (p x)
    where
      go : (q : Bool)
          → or_else (map r (last_of (only p xs))) (if q then some (r x) else d)
          ≡ or_else (map r (last_of (if q then x ∷ only p xs else only p xs))) d
      go true = sym (or_option_map (last_of (only p xs)) x d) ∙ ap (λ (o : Option A). or_else (map r o) d) (sym (last_cons x (only p xs)))
      go false = refl

or_none : {A : Type 0} (o : Option A) → or_else o none ≡ o
or_none none = refl
or_none (some x) = refl

-- from nothing, it is the last of the list
pub kept_last : {A B : Type 0} (p : A → Bool) (r : A → B) (xs : List A) → folded (keep p r) none xs ≡ map r (last_of (only p xs))
kept_last p r xs = keep_last p r none xs ∙ or_none (map r (last_of (only p xs)))

-- the same, as the first of two that is there
pub keep_or : {A : Type 0} (p : A → Bool) (o : Option A) (x : A) → or_else (if p x then some x else none) o ≡ keep p (λ x. x) o x
unfolding keep
keep_or p o x = go (p x)
  where
    go : (t : Bool) → or_else (if t then some x else none) o ≡ (if t then some x else o)
    go true = refl
    go false = refl

folded_append : {S A : Type 0} (f : S → A → S) (st : S) (xs ys : List A) → folded f st (xs ++ ys) ≡ folded f (folded f st xs) ys
unfolding folded
folded_append f st [] ys = refl
folded_append f st (x ∷ xs) ys = folded_append f (f st x) xs ys

-- a state changed by all that each x gives
unfoldable pub feed : {S A B : Type 0} → (S → B → S) → (A → Bool) → (A → List B) → S → A → S
feed f p g st x = if p x then folded f st (g x) else st

pub feed_each : {S A B : Type 0} (f : S → B → S) (p : A → Bool) (g : A → List B) (st : S) (xs : List A)
    → folded (feed f p g) st xs ≡ folded f st (each g (only p xs))
unfolding folded each only feed
feed_each f p g st [] = refl
feed_each {S} {A} {B} f p g st (x ∷ xs) = feed_each f p g (feed f p g st x) xs ∙ go (p x)
  where
    go : (q : Bool)
        → folded f (if q then folded f st (g x) else st) (each g (only p xs))
        ≡ folded f st (each g (if q then x ∷ only p xs else only p xs))
    go true = sym (folded_append f st (g x) (each g (only p xs)))
    go false = refl
