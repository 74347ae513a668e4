-- Of a block that is read: the date is a date and stands in the block, and the bias is a fraction in lowest terms that stands in the block, or the
-- Exif directory has none.
use Rattle.std.specs.Prelude.{◌≡◌, refl, not, List, [], ◌∷◌, ◌++◌, ℕ, ◌+◌, ◌≤◌, ◌<◌, length, ℤ, pos, nat_abs, ◌*ℤ◌, leb, eqb}
use Rattle.std.proofs.Common.{sym, ap, ◌∙◌, true≢false, add-zero, arith, lit≤, leb-true, eq-eqb}
use Rattle.std.proofs.Math.Option.{Option, none, some}
use Rattle.std.specs.Int.{◌∣◌}
use Rattle.rules.specs.Doc.Outcomes.{Outcome, fine, require, given}
use Rattle.rules.specs.Doc.Bytes.{part}
use Rattle.rules.specs.Doc.Endian.{Endian, number_in}
use Rattle.rules.specs.Laws.Rows.{bind_fine, required}
use Rattle.rules.specs.Laws.Endian.{Bytes, number_in_below, number_in_part}
use Rattle.capture_rules.specs.Doc.Header.{Header, header}
use Rattle.capture_rules.specs.Doc.Directory.{ASCII, SRATIONAL, date_time_original, exposure_bias_value}
use Rattle.capture_rules.specs.Doc.Directory.{Entry, Directory, directory, find, holds, value_of}
use Rattle.capture_rules.specs.Doc.Time.{Time, time}
use Rattle.capture_rules.specs.Doc.Fraction.{Fraction, signed32, lowest}
use Rattle.capture_rules.specs.Doc.Line.{time_text}
use Rattle.capture_rules.specs.Doc.Capture.{Capture, exif_at, date_in, fraction_in, entry_bias, if_there, bias_in, in_order, capture_in, capture_from, capture}
use Rattle.capture_rules.specs.Laws.Calendar.{Real, time_real}
use Rattle.capture_rules.specs.Laws.TimeText.{text_back}
use Rattle.capture_rules.specs.Laws.Signs.{signed32_nonzero}
use Rattle.capture_rules.specs.Laws.Lowest.{same_value, no_common, den_above, num_small32, den_small32}
use Rattle.capture_rules.specs.Laws.LineText.{Small}

-- ---- What was read

-- A block that is read has a header, a first directory, and the Exif directory that this points to, which has the date and the bias.
pub record Reading (b : List ℕ) (c : Capture) : Type 0 where
  pub head : Header
  pub first : Directory
  pub at : ℕ
  pub exif : Directory
  pub is_head : header b ≡ fine head
  pub is_first : directory head.order b head.first ≡ fine first
  pub is_at : exif_at head.order b first ≡ fine at
  pub is_exif_is : directory head.order b at ≡ fine exif
  pub is_date_is : date_in head.order b exif ≡ fine c.time
  pub is_bias : bias_in head.order b exif ≡ fine c.bias

exif_reading : (e : Endian) (b : List ℕ) (d : Directory) {c : Capture} → capture_in e b d ≡ fine c
    → (date_in e b d ≡ fine c.time) × (bias_in e b d ≡ fine c.bias)
unfolding capture_in in_order
exif_reading e b d {c} f =
    let (t, p, q) = bind_fine (date_in e b d) _ (sym f) in
    let (x, r, s) = bind_fine (bias_in e b d) (λ y. fine (record { time = t; bias = y })) q in
    let same : record { time = t; bias = x } ≡ c = cc in
    (sym p ∙ ap (λ y. fine y.time) same, sym r ∙ ap (λ y. fine y.bias) same)

pub reading_of : (b : List ℕ) {c : Capture} → capture b ≡ fine c → Reading b c
unfolding capture capture_from
reading_of b {c} e =
    let (h, p, q) = bind_fine (header b) _ (sym e) in
    let (d, r, s) = bind_fine (directory h.order b h.first) _ q in
    let (at, t, u) = bind_fine (exif_at h.order b d) _ s in
    let (x, v, w) = bind_fine (directory h.order b at) _ u in
    let both = exif_reading h.order b x (sym w) in
    record {
      head = h;
      first = d;
      at = at;
      exif = x;
      is_head = sym p;
      is_first = sym r;
      is_at = sym t;
      is_exif_is = sym v;
      is_date_is = both.0;
      is_bias = both.1;
    }

-- the n bytes that an entry points to stand in the block
value_part : (b : List ℕ) (n : ℕ) (x : Entry) {v : List ℕ} → fine v ≡ value_of b n x → (x.place + n ≤ length b) × (v ≡ part b x.place n)
unfolding value_of
value_part b n x {v} e =
    let (u, p, q) = bind_fine (require (leb (x.place + n) (length b)) 35) (λ u. fine (part b x.place n)) e in
    (leb-true (x.place + n) (length b) (required _ 35 p), cc)

-- ---- The date

-- twenty bytes of a block are read as a date
record DateBytes (b : List ℕ) (t : Time) : Type 0 where
  at : ℕ
  inside : at + 20 ≤ length b
  is_time : time (part b at 20) ≡ fine t

date_bytes : (e : Endian) (b : List ℕ) (d : Directory) {t : Time} → date_in e b d ≡ fine t → DateBytes b t
unfolding date_in
date_bytes e b d {t} f =
    let (x, p, q) = bind_fine (given (find e b d date_time_original) 37) _ (sym f) in
    let (u, r, s) = bind_fine (require (holds ASCII 20 x) 37) _ q in
    let (v, i, j) = bind_fine (value_of b 20 x) time s in
    let k = value_part b 20 x i in
    record { at = x.place; inside = k.0; is_time = rw (← k.1) (sym j) }

-- ---- The bias

-- eight bytes of a block are read as a fraction
record BiasBytes (e : Endian) (b : List ℕ) (f : Fraction) : Type 0 where
  at : ℕ
  inside : at + 8 ≤ length b
  nonzero : number_in e b (at + 4) 4 ≡ 0 → ⊥
  is_lowest : f ≡ lowest (signed32 (number_in e b at 4)) (signed32 (number_in e b (at + 4) 4))

bias_of_is : (e : Endian) (b : List ℕ) (x : Entry) {f : Fraction} → entry_bias e b x ≡ fine f → BiasBytes e b f
unfolding entry_bias fraction_in
bias_of_is e b x {f} g =
    let (u, p, q) = bind_fine (require (holds SRATIONAL 1 x) 38) _ (sym g) in
    let (v, r, s) = bind_fine (value_of b 8 x) (fraction_in e) q in
    let k = value_part b 8 x r in
    let above : number_in e v 0 4 ≡ number_in e b x.place 4 = rw (k.1, number_in_part e b x.place 8 0 4 (lit≤ tt), add-zero x.place) in
    let below : number_in e v 4 4 ≡ number_in e b (x.place + 4) 4 = rw k.1 (number_in_part e b x.place 8 4 4 (lit≤ tt)) in
    let quotient = lowest (signed32 (number_in e v 0 4)) (signed32 (number_in e v 4 4)) in
    let (w, i, j) = bind_fine (require (not (eqb (number_in e v 4 4) 0)) 39) (λ w. fine quotient) s in
    let same : f ≡ quotient = cc in
    record {
      at = x.place;
      inside = k.0;
      nonzero = λ z. true≢false (sym (required _ 39 i) ∙ ap not (eq-eqb (number_in e v 4 4) 0 (below ∙ z)));
      is_lowest = rw (← above, ← below) same;
    }

none_apart : {A : Type 0} {x : A} → fine none ≡ fine (some x) → ⊥
none_apart e = let z : ◌≡◌ {A = ℕ} 0 1 = cc in omega arith

-- a bias is that of an entry that is there, and there is none only without an entry
there_some : {A B : Type 0} (g : A → Outcome B) (o : Option A) {y : B} → if_there g o ≡ fine (some y) → (x : A) × (g x ≡ fine y)
unfolding if_there
there_some g none e = absurd (none_apart e)
there_some g (some x) e = let (y, p, q) = bind_fine (g x) (λ y. fine (some y)) (sym e) in (x, cc)

there_none : {A B : Type 0} (g : A → Outcome B) (o : Option A) → if_there g o ≡ fine none → o ≡ none
unfolding if_there
there_none g none e = refl
there_none g (some x) e = let (y, p, q) = bind_fine (g x) (λ y. fine (some y)) (sym e) in absurd (none_apart q)

bias_bytes : (b : List ℕ) {c : Capture} (r : Reading b c) {f : Fraction} → c.bias ≡ some f → BiasBytes r.head.order b f
unfolding bias_in
bias_bytes b r e =
    let order = r.head.order in
    let (x, p) = there_some (entry_bias order b) (find order b r.exif exposure_bias_value) (r.is_bias ∙ ap fine e) in
    bias_of_is order b x p

-- ---- What is handed out

-- Eight bytes of a block are two signed numbers in a byte order, the second not 0, and a fraction is their quotient: with a denominator above zero,
-- and with no divisor that both its parts have but 1.
pub record InLowestTerms (e : Endian) (b : List ℕ) (f : Fraction) : Type 0 where
  pub at : ℕ
  pub inside : at + 8 ≤ length b
  pub above : ℤ
  pub below : ℤ
  pub is_above : above ≡ signed32 (number_in e b at 4)
  pub is_below : below ≡ signed32 (number_in e b (at + 4) 4)
  pub is_lowest : f ≡ lowest above below
  pub nonzero : below ≡ pos 0 → ⊥
  pub value_kept : f.num *ℤ below ≡ above *ℤ pos f.den
  pub den_positive : 0 < f.den
  pub no_common_divisor : (d : ℕ) → d ∣ nat_abs f.num → d ∣ f.den → d ≡ 1

lowest_terms : (e : Endian) (b : List ℕ) (f : Fraction) → Bytes b → BiasBytes e b f → InLowestTerms e b f
lowest_terms e b f bytes i =
    let x = signed32 (number_in e b i.at 4) in
    let n = number_in e b (i.at + 4) 4 in
    let y = signed32 n in
    let not_zero : y ≡ pos 0 → ⊥ = signed32_nonzero n (number_in_below e b (i.at + 4) 4 bytes) i.nonzero in
    record {
      at = i.at;
      inside = i.inside;
      above = x;
      below = y;
      is_above = refl;
      is_below = refl;
      is_lowest = i.is_lowest;
      nonzero = not_zero;
      value_kept = rw i.is_lowest (same_value x y);
      den_positive = rw i.is_lowest (den_above x y not_zero);
      no_common_divisor = rw i.is_lowest (no_common x y not_zero);
    }

module _ (b : List ℕ) {c : Capture} (taken : capture b ≡ fine c) where
  date : DateBytes b c.time
  date = let r = reading_of b taken in date_bytes r.head.order b r.exif r.is_date_is

  -- The date is a date of the calendar, and the time of day is one.
  pub date_real : Real c.time
  date_real = time_real (part b date.at 20) date.is_time

  -- The date stands in the block, digit for digit, with a zero byte behind it.
  pub date_stands : (at : ℕ) × (at + 20 ≤ length b) × (part b at 20 ≡ time_text c.time ++ (0 ∷ []))
  date_stands = (date.at, date.inside, sym (text_back (part b date.at 20) date.is_time))

  -- A bias is a fraction in lowest terms that stands in the block, in the block's byte order. `Bytes`, which every slice of the code has, is asked
  -- for since only bytes make numbers of 32 bits.
  pub bias_lowest : Bytes b → {f : Fraction} → c.bias ≡ some f → (h : Header) × (header b ≡ fine h) × InLowestTerms h.order b f
  bias_lowest bytes {f} e =
      let r = reading_of b taken in
      (r.head, r.is_head, lowest_terms r.head.order b f bytes (bias_bytes b r e))

  -- Neither part of a bias is larger than 2^31.
  pub bias_small : Small c.bias
  bias_small = go c.bias refl
    where
      go : (o : Option Fraction) → c.bias ≡ o → Small o
      go none e = tt
      go (some f) e =
          let r = reading_of b taken in
          let i = bias_bytes b r e in
          let above = number_in r.head.order b i.at 4 in
          let below = number_in r.head.order b (i.at + 4) 4 in
          rw i.is_lowest (num_small32 above below, den_small32 above below)

-- A bias is said to be missing only where the Exif directory has no entry for one: never for one that is wrong.
pub missing_bias : (b : List ℕ) {c : Capture} (r : Reading b c) → c.bias ≡ none
    → find r.head.order b r.exif exposure_bias_value ≡ none
unfolding bias_in
missing_bias b r e =
    let order = r.head.order in
    there_none (entry_bias order b) (find order b r.exif exposure_bias_value) (r.is_bias ∙ ap fine e)
