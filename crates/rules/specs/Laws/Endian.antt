-- Numbers in either byte order: one law over the digits says how large they can be. In a part they are those of the whole. The first byte highest,
-- they are the numbers of Bytes.
use Rattle.std.specs.Prelude.{◌≡◌, refl, List, ℕ, zero, suc, ◌+◌, ◌-◌, ◌*◌, ◌^◌, ◌≤◌, ◌<◌}
use Rattle.std.proofs.Common.{ap, ◌∙◌, pow-suc, lt_of_lt_of_le, le_of_suc-le-suc, arith, lit<, Fits}
use Rattle.std.proofs.Math.Nat.{pow-le-pow_right}
use Rattle.std.specs.Int.{w8}
use Rattle.rules.specs.Doc.Bytes.{byte_at, number_at, part}
use Rattle.rules.specs.Doc.Endian.{Endian, big, little, place_in, number_of, number_in}
use Rattle.rules.specs.Laws.Agreement.{part_at}

-- every element is a byte, in the words in which a proof of code knows it of a slice
abbrev pub Bytes : List ℕ → Type 0
Bytes s = (k : ℕ) → Fits w8 (byte_at s k)

-- the digits of the number in the n bytes from a position, the highest first
abbrev pub digits_in : Endian → List ℕ → ℕ → ℕ → ℕ → ℕ
digits_in e s at n i = byte_at s (place_in e at n i)

-- n digits make a number below 256 to the n
digits_below : (digit : ℕ → ℕ) (n : ℕ) → ((i : ℕ) → Fits w8 (digit i)) → number_of digit n < 256 ^ n
unfolding number_of
digits_below digit zero b = lit< tt
digits_below digit (suc n) b =
    let e : 256 ^ suc n ≡ 256 ^ n * 256 = pow-suc 256 n in
    let h : number_of digit n < 256 ^ n = digits_below digit n b in
    omega (arith, b n)

digits_same : (d e : ℕ → ℕ) (n : ℕ) → ((i : ℕ) → i < n → d i ≡ e i) → number_of d n ≡ number_of e n
unfolding number_of
digits_same d e zero h = refl
digits_same d e (suc n) h = rw (digits_same d e n (λ i k. h i (omega arith)), h n (omega arith))

module _ (e : Endian) (s : List ℕ) (at n : ℕ) (b : Bytes s) where
  pub number_in_below : number_in e s at n < 256 ^ n
  unfolding number_in
  number_in_below = digits_below (digits_in e s at n) n (λ i. b (place_in e at n i))

  -- fewer than eight digits leave room for one more in 64 bits
  pub digits_room : (k : ℕ) → k < 8 → number_of (digits_in e s at n) k < 2 ^ 56
  digits_room k h =
      lt_of_lt_of_le (digits_below (digits_in e s at n) k (λ i. b (place_in e at n i))) (pow-le-pow_right (lit< tt) (le_of_suc-le-suc h))

-- a number in a part of some bytes stands in them, where the part begins and that much further on
pub number_in_part : (e : Endian) (s : List ℕ) (from size at n : ℕ) → at + n ≤ size → number_in e (part s from size) at n ≡ number_in e s (from + at) n
unfolding number_in place_in
number_in_part e s from size at n h =
    digits_same (digits_in e (part s from size) at n) (digits_in e s (from + at) n) n
    (λ i k. part_at s from size (place_in e at n i) (place_below e i k) ∙ ap (byte_at s) (moved e i))
  where
    place_below : (e : Endian) (i : ℕ) → i < n → place_in e at n i < size
    place_below big i k = omega arith
    place_below little i k = omega arith

    moved : (e : Endian) (i : ℕ) → from + place_in e at n i ≡ place_in e (from + at) n i
    moved big i = omega arith
    moved little i = omega arith

-- the numbers of Bytes are the big-endian ones
pub number_big : (s : List ℕ) (at n : ℕ) → number_in big s at n ≡ number_at s at n
unfolding number_in number_of place_in number_at
number_big s at n = go n
  where
    go : (k : ℕ) → number_of (λ i. byte_at s (at + i)) k ≡ number_at s at k
    go zero = refl
    go (suc k) = rw (go k)

-- little-endian, the first byte is the lowest
pub number_little : (s : List ℕ) (at n : ℕ) → number_in little s at (suc n) ≡ byte_at s at + 256 * number_in little s (at + 1) n
unfolding number_in number_of place_in
number_little s at n =
    let k : at + (suc n - suc n) ≡ at = omega arith in
    let same = digits_same (digits_in little s at (suc n)) (digits_in little s (at + 1) n) n (λ i h. later i (omega arith)) in
    rw (k, same) (omega arith)
  where
    later : (i : ℕ) → at + (suc n - suc i) ≡ at + 1 + (n - suc i) → byte_at s (at + (suc n - suc i)) ≡ byte_at s (at + 1 + (n - suc i))
    later i e = rw e
