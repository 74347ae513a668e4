-- A name and a plain decimal behind it, at the front of some bytes: what was read of them, digit by digit.
use Rattle.std.specs.Prelude.{Option, Some, None, ◌≡◌, ◌≢◌, refl, ℕ, zero, suc, ◌+◌, ◌-◌, ◌*◌, ◌/◌, ◌%◌, ◌≤◌, ◌<◌, false, ◌⊎◌, List, [], ◌∷◌, ◌++◌, length, ltb}
use Rattle.std.proofs.Common.{sym, ◌∙◌, inl, inr, append_assoc, length-append, drop_of_length-le, drop-cons, le-leb, lt-ltb, ltb-true, ltb-false}
use Rattle.std.proofs.Math.Path.{ap}
use native.Mathlib.Omega.{arith}
use mathlib.Core.List.{append_cancel_left}
use Rattle.std.proofs.Math.Numerals.{add-one}
use Rattle.std.proofs.Math.ListN.{drop, get_or, get_or-append}
use Rattle.std.proofs.Math.Seq.{drop-append-add}
use Rattle.std.proofs.lemmas.Bool.{lt-leb}
use Rattle.rules.specs.Doc.Text.{digit, decimal_to, decimal, is_digit}
use Rattle.rules.specs.Laws.Text.{decimal_one, decimal_more, one_digit}
use Rattle.rules.specs.Laws.Rows.{by_test}
use Rattle.rules.specs.Demands.Digits.{digit_value, value_from, decimal_back}
use Rattle.sheet_rules.specs.Doc.Rows.{digit_then, digits_in}
use Rattle.sheet_rules.specs.Laws.Digits.{NoDigit, is_digit_is, digits_append, decimal_digits, digits_front}
use Rattle.sheet_line.specs.declared.Number.{Number}

-- ---- What was read

-- the name and a number up to `end`, and no digit behind it
pub record NamedTo (name : List ℕ) (most : ℕ) (s : List ℕ) (n end : ℕ) : Type 0 where
  pub small : n ≤ most
  pub splits : s ≡ name ++ decimal n ++ drop end s
  pub whole : NoDigit (drop end s)
  pub inside : end ≤ length s

-- no such name and number
abbrev pub NotNamed : List ℕ → ℕ → List ℕ → Type 0
NotNamed name most s = (n : ℕ) (rest : List ℕ) → n ≤ most → NoDigit rest → s ≡ name ++ decimal n ++ rest → ⊥

abbrev pub Named : List ℕ → ℕ → List ℕ → Option Number → Type 0
Named name most s (Some number) = NamedTo name most s number.n number.end
Named name most s None = NotNamed name most s

-- ---- A digit

pub record DigitAt (s : List ℕ) (i d : ℕ) : Type 0 where
  pub small : d < 10
  pub inside : i < length s
  pub splits : drop i s ≡ digit d ∷ drop (i + 1) s

-- the digit at a position, if there is one
abbrev pub Digit : List ℕ → ℕ → Option ℕ → Type 0
Digit s i (Some d) = DigitAt s i d
Digit s i None = NoDigit (drop i s)

module _ (s : List ℕ) (i : ℕ) where
  pub digit_end : length s ≤ i → Digit s i None
  unfolding digits_in
  digit_end h = rw (drop_of_length-le s h)

  module _ (c : ℕ) (h : i < length s) (e : c ≡ get_or s i 0) where
    here : drop i s ≡ c ∷ drop (i + 1) s
    here = rw (e, add-one i) (drop-cons s i 0 h)

    not_digit : is_digit c ≡ false → Digit s i None
    unfolding digits_in digit_then
    not_digit f = rw (here, f)

    pub digit_other : (c < 48) ⊎ (57 < c) → Digit s i None
    digit_other (inl k) = not_digit (rw (lt-leb 48 c k))
    digit_other (inr k) = not_digit (rw (le-leb 48 c (omega arith), lt-leb c 57 k))

    pub digit_there : 48 ≤ c → c ≤ 57 → DigitAt s i (c - 48)
    unfolding digit
    digit_there k l =
        let f : 48 + (c - 48) ≡ c = omega arith in
        record { small = omega arith; inside = h; splits = rw (lt-ltb (c - 48) 10 (omega arith), f) here }

-- ---- The digits of a number

some_to : (k n : ℕ) → 1 ≤ length (decimal_to k n)
unfolding decimal_to
some_to zero n = omega arith
some_to (suc k) n =
    by_test (λ (l : List ℕ). 1 ≤ length l) (ltb n 10) (λ e. omega arith)
    (λ e. rw (length-append (decimal_to k (n / 10)) (digit (n % 10) ∷ [])) (omega arith))

decimal_some : (n : ℕ) → 1 ≤ length (decimal n)
unfolding decimal
decimal_some n = some_to n n

-- a number above 0 starts with no `0`
first_to : (k n : ℕ) → 1 ≤ n → n ≤ k → 49 ≤ get_or (decimal_to k n) 0 0
unfolding decimal_to digit
first_to zero n h m = absurd (omega arith)
first_to (suc k) n h m =
    by_test (λ (l : List ℕ). 49 ≤ get_or l 0 0) (ltb n 10) (λ e. rw (lt-ltb n 10 (ltb-true n 10 e)) (omega arith))
    (λ e. rw (get_or-append (decimal_to k (n / 10)) (digit (n % 10) ∷ []) 0 0 (some_to k (n / 10))) (first_to k (n / 10) (omega (arith, ltb-false n 10 e)) (omega arith)))

no_leading_zero : (n c : ℕ) (ds : List ℕ) → decimal n ≡ digit 0 ∷ c ∷ ds → ⊥
unfolding decimal digit
no_leading_zero zero c ds e = let z = ap length e in omega (arith, one_digit 0 (omega arith))
no_leading_zero (suc n) c ds e =
    let f = first_to (suc n) (suc n) (omega arith) (omega arith) in
    let z : 49 ≤ 48 = rw e at f in
    omega arith

-- one digit more
decimal_push : (n d : ℕ) → 1 ≤ n → d < 10 → decimal (n * 10 + d) ≡ decimal n ++ (digit d ∷ [])
decimal_push n d h k =
    let q : (n * 10 + d) / 10 ≡ n = omega arith in
    let r : (n * 10 + d) % 10 ≡ d = omega arith in
    rw (decimal_more (n * 10 + d) (omega arith), q, r)

value_append : (n : ℕ) (a b : List ℕ) → value_from 10 n (a ++ b) ≡ value_from 10 (value_from 10 n a) b
unfolding value_from
value_append n [] b = refl
value_append n (c ∷ a) b = value_append (n * 10 + digit_value c) a b

value_grows : (n : ℕ) (ds : List ℕ) → n ≤ value_from 10 n ds
unfolding value_from
value_grows n [] = omega arith
value_grows n (c ∷ ds) = omega (arith, value_grows (n * 10 + digit_value c) ds)

-- ---- A number, digit by digit

-- i digits were read, and they are the plain decimal of n; or none yet
abbrev pub Taken : List ℕ → ℕ → ℕ → Type 0
Taken s i n = ((i ≡ 0) × (n ≡ 0)) ⊎ ((1 ≤ i) × (i ≤ length s) × (s ≡ decimal n ++ drop i s))

-- a number at the front has the digits that stand there
front_digits : (s : List ℕ) (n : ℕ) (rest : List ℕ) → NoDigit rest → s ≡ decimal n ++ rest → digits_in s ≡ decimal n
front_digits s n rest p e = rw e (digits_front n rest p)

pub none_taken : (most : ℕ) (s : List ℕ) → NoDigit s → NotNamed [] most s
none_taken most s p n rest h q e =
    let z : [] ≡ decimal n = sym p ∙ front_digits s n rest q e in
    omega (arith, decimal_some n, ap length z)

pub taken_all : (most : ℕ) (s : List ℕ) (i n : ℕ) → Taken s i n → (i ≡ 0 → ⊥) → n ≤ most → NoDigit (drop i s) → NamedTo [] most s n i
taken_all most s i n (inl t) h k p = absurd (h t.0)
taken_all most s i n (inr t) h k p = record { small = k; splits = t.2; whole = p; inside = t.1 }

module _ (s : List ℕ) (i n d : ℕ) (taken : Taken s i n) (next : DigitAt s i d) where
  -- a digit behind a leading zero
  pub taken_zero : (most : ℕ) → (i ≡ 0 → ⊥) → n ≡ 0 → NotNamed [] most s
  unfolding digits_in digit_then
  taken_zero most h z m rest k p e = go taken
    where
      go : Taken s i n → ⊥
      go (inl t) = h t.0
      go (inr t) =
          let zero_first : s ≡ decimal 0 ++ digit d ∷ drop (i + 1) s = t.2 ∙ rw (next.splits, z) in
          let ds : digits_in s ≡ digit 0 ∷ digit d ∷ digits_in (drop (i + 1) s) =
          ap digits_in zero_first ∙ rw (decimal_one 0 (omega arith), is_digit_is 0 (omega arith), is_digit_is d next.small) in
          no_leading_zero m (digit d) (digits_in (drop (i + 1) s)) (sym (front_digits s m rest p e) ∙ ds)

  -- the digits up to here and this one
  pushed : (i ≡ 0) ⊎ (1 ≤ n) → s ≡ decimal (n * 10 + d) ++ drop (i + 1) s
  pushed o = go taken o
    where
      go : Taken s i n → (i ≡ 0) ⊎ (1 ≤ n) → s ≡ decimal (n * 10 + d) ++ drop (i + 1) s
      go (inl t) o =
          let e : n * 10 + d ≡ d = omega (arith, t.1) in
          let f = next.splits in
          rw (e, decimal_one d next.small, t.0) (rw t.0 at f)
      go (inr t) (inl z) = absurd (omega (arith, t.0, z))
      go (inr t) (inr h) = t.2 ∙ rw (next.splits, decimal_push n d h next.small) (sym (append_assoc (decimal n) (digit d ∷ []) (drop (i + 1) s)))

  module _ (o : (i ≡ 0) ⊎ (1 ≤ n)) where
    pub taken_more : Taken s (i + 1) (n * 10 + d)
    taken_more = inr (omega arith, omega (arith, next.inside), pushed o)

    -- more than is taken
    pub taken_over : (most : ℕ) → most < n * 10 + d → NotNamed [] most s
    taken_over most h m rest k p e =
        let rest' = drop (i + 1) s in
        let ds : decimal m ≡ decimal (n * 10 + d) ++ digits_in rest' =
        sym (front_digits s m rest p e) ∙ ap digits_in (pushed o) ∙ digits_append (decimal (n * 10 + d)) rest' (decimal_digits (n * 10 + d)) in
        let v : m ≡ value_from 10 (value_from 10 0 (decimal (n * 10 + d))) (digits_in rest') =
        sym (decimal_back m) ∙ ap (value_from 10 0) ds ∙ value_append 0 (decimal (n * 10 + d)) (digits_in rest') in
        let w = rw (decimal_back (n * 10 + d)) at v in
        omega (arith, w, value_grows (n * 10 + d) (digits_in rest'))

-- ---- A name and a number

module _ (name : List ℕ) (most : ℕ) (s : List ℕ) where
  pub not_started : ((rest : List ℕ) → s ≢ name ++ rest) → NotNamed name most s
  not_started p n rest h q e = p (decimal n ++ rest) (e ∙ append_assoc name (decimal n) rest)

  module _ (behind : List ℕ) (started : s ≡ name ++ behind) where
    pub named_to : {n end : ℕ} → NamedTo [] most behind n end → NamedTo name most s n (length name + end)
    named_to {n} {end} t =
        let rest : drop (length name + end) s ≡ drop end behind = ap (drop (length name + end)) started ∙ drop-append-add name behind end in
        record {
          small = t.small;
          splits = rw (rest, append_assoc name (decimal n) (drop end behind), ← t.splits) started;
          whole = rw rest t.whole;
          inside = omega (arith, ap length started, length-append name behind, t.inside);
        }

    pub not_named : NotNamed [] most behind → NotNamed name most s
    not_named t n rest h p e =
        t n rest h p (append_cancel_left name behind (decimal n ++ rest) (sym started ∙ e ∙ append_assoc name (decimal n) rest))
