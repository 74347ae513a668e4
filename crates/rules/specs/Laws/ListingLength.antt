-- Why a listing's text has at most seven bytes for each byte of the image, and a last line: a box has 8 bytes or more, its line at most 56.
use Rattle.std.specs.Prelude.{◌≡◌, List, ◌++◌, length, take, drop, leb, ltb}
use Rattle.std.proofs.Math.Path.{refl}
use Prim.Native.Nat.{ℕ, zero, suc, ◌+◌, ◌-◌, ◌*◌, ◌≤◌, ◌<◌}
use native.Mathlib.Omega.{arith}
use Rattle.std.proofs.Math.Option.{Option}
use Rattle.std.proofs.Common.{length-append, length-take-le, take_all, lit<, ltb-false, leb-false}
use Rattle.rules.specs.Doc.Outcomes.{Outcome, fine, refused}
use Rattle.rules.specs.Doc.Bytes.{size_of, bytes_in}
use Rattle.rules.specs.Doc.Text.{decimal}
use Rattle.rules.specs.Doc.Headers.{Box, child_at}
use Rattle.rules.specs.Doc.Listing.{line_of, Listing, finished, fault, line, ◌then◌, behind, opening, listed_at, row_of, run_of, children_of, deepest}
use Rattle.rules.specs.Doc.Listing.{depth_over, open_box, list_run, front_text, line_text, last_text, text_of, longest, listing, printed}
use Rattle.rules.specs.Laws.Rows.{by_test}
use Rattle.rules.specs.Laws.Headers.{Inside, child_inside}
use Rattle.rules.specs.Laws.Numbered.{Within, with_number}
use Rattle.rules.specs.Laws.Refusals.{version_numbered, child_numbered}
use Rattle.rules.specs.Laws.Text.{one_digit, two_digits, five_digits, hex_length}
use Rattle.rules.specs.Laws.Listing.{by_opening}

line_length : (levels n at : ℕ) (b : Box) → n ≤ longest → Inside n at b → length (line_text (line_of (depth_over levels) b)) ≤ 56
unfolding front_text line_text line_of
line_length levels n at b h i =
    let d = one_digit (depth_over levels) (omega arith) in
    let a = five_digits b.start (omega arith) in
    let f = five_digits (b.body.from - b.start) (omega arith) in
    let t = five_digits (size_of b.body) (omega arith) in
    simp (length-append, hex_length) (omega arith)

last_length : (at k digits : ℕ) → at ≤ longest → length (decimal k) ≤ digits → length (last_text at k) ≤ 18 + digits
unfolding last_text
last_length at k digits h j = simp length-append (omega (arith, five_digits at (omega arith)))

-- Of an image that is listed the number is 0, 3 or 4, so it has one digit: a version, a header and a body refuse with no other.
abbrev Digit : ℕ → Type 0
Digit k = k < 10

digit_length : (at k : ℕ) → at ≤ longest → Digit k → length (last_text at k) ≤ 19
digit_length at k h j = last_length at k 1 h (omega (arith, one_digit k j))

refused_digit : {A : Type 0} {k : ℕ} → Within Digit {A = A} (refused k) → Digit k
refused_digit (with_number p) = p

-- ---- The lines of boxes that lie in `size` bytes

-- each takes 8 of them or more, and its line at most 56 bytes of text; the last line takes at most 19
abbrev Short : ℕ → Listing → Type 0
Short size finished = Unit {0}
Short size (fault at k) = length (last_text at k) ≤ 19
Short size (line x l) = (8 ≤ size) × (length (line_text x) ≤ 56) × Short (size - 8) l

text_length : (n size : ℕ) (l : Listing) → n ≤ longest → Short size l → length (text_of n l) ≤ 7 * size + 19
unfolding text_of
text_length n size finished h p = omega (arith, digit_length n 0 h (omega arith))
text_length n size (fault at k) h p = omega arith
text_length n size (line x l) h (r, e, p) = simp length-append (omega (arith, text_length n (size - 8) l h p))

then_short : (m n size : ℕ) (a b : Listing) → m + n ≤ size → Short m a → ((k : ℕ) → n ≤ k → Short k b) → Short size (a then b)
unfolding ◌then◌
then_short m n size finished b h p q = q size (omega arith)
then_short m n size (fault at k) b h p q = p
then_short m n size (line x a) b h (r, e, p) q = (omega arith, e, then_short (m - 8) n (size - 8) a b (omega arith) p q)

-- the same of the boxes from each position on, up to an end
abbrev Runs : ℕ → (ℕ → Listing) → Type 0
Runs end run = (at size : ℕ) → end ≤ at + size → Short size (run at)

-- ---- The children of a box: they start in its body, not before it

module _ (b : Box) (h : b.start ≤ longest) (children : ℕ → Listing) (on : Runs b.body.to children) where
  abbrev Opened : Outcome (Option ℕ) → Type 0
  Opened o = Short (size_of b.body) (children_of b.start o children)

  behind_short : (n : ℕ) → Opened (behind n b)
  unfolding children_of behind
  behind_short n =
      by_test Opened (ltb (size_of b.body) n) (λ e. digit_length b.start 3 h (omega arith)) (λ e. on (b.body.from + n) (size_of b.body) (omega arith))

  opening_short : (s : List ℕ) → Opened (opening s b)
  unfolding children_of
  opening_short s =
      by_opening Opened s b behind_short
      (λ k e. digit_length b.start k h (refused_digit (rw (← e) at (version_numbered {Table = Digit} (lit< tt) (bytes_in s b.body) 0)))) tt

-- ---- A run of boxes

module _ (levels : ℕ) (s : List ℕ) (h : length s ≤ longest)
    (each : (at : ℕ) (b : Box) → Inside (length s) at b → Short (size_of b.body) (open_box levels s b)) where
  at_short : (at size : ℕ) → at < length s → length s ≤ at + size → (o : Outcome Box) → o ≡ child_at s at
      → (next : ℕ → Listing) → Runs (length s) next → Short size (listed_at (depth_over levels) at o (open_box levels s) next)
  unfolding listed_at
  at_short at size k g (refused j) e next on = digit_length at j (omega arith) (refused_digit (rw (← e) at (child_numbered {Table = Digit} (lit< tt) (lit< tt) s at)))
  at_short at size k g (fine b) e next on =
      let i = child_inside s at e in
      let q = b.body.to in
      let later = then_short (size_of b.body) (length s - q) (size - 8) (open_box levels s b) (next q) (omega arith) (each at b i) in
      (omega arith, line_length levels (length s) at b h i, later (λ n j. on q n (omega arith)))

  row_short : (n : ℕ) → Runs (length s) (row_of (depth_over levels) (open_box levels s) s n)
  unfolding row_of
  row_short zero at size g = tt
  row_short (suc n) at size g =
      by_test (Short size) (leb (length s) at) (λ e. tt) (λ e. at_short at size (leb-false (length s) at e) g (child_at s at) refl _ (row_short n))

run_short : (levels : ℕ) (s : List ℕ) → length s ≤ longest → Runs (length s) (list_run levels s)
unfolding list_run run_of open_box
run_short zero s h = row_short 0 s h (λ at b i. tt) (length s)
run_short (suc levels) s h =
    row_short (suc levels) s h (λ at b i.
    let inside = take b.body.to s in
    let l : length inside ≡ b.body.to = length-take-le b.body.to s i.inner in
    opening_short b (omega arith) (list_run levels inside) (λ q size g. run_short levels inside (omega arith) q size (omega arith)) s) (length s)

-- ---- The whole

-- seven bytes of text for each byte of the image, and the last line
abbrev pub longest_text : ℕ
longest_text = 7 * longest + 19

pub listing_length : (image : List ℕ) → length (listing image) ≤ longest_text
unfolding listing
listing_length image =
    by_test (λ (text : List ℕ). length text ≤ longest_text) (ltb longest (length image))
    (λ e. omega (arith, last_length longest 29 2 (omega arith) (two_digits 29 (omega arith))))
    (λ e. let h = ltb-false longest (length image) e in
    omega (arith, text_length (length image) (length image) (list_run deepest image 0) h (run_short deepest image h 0 (length image) (omega arith))))

-- a buffer of that length holds the whole text
pub always_room : (image out : List ℕ) → longest_text ≤ length out → printed (listing image) out ≡ listing image ++ drop (length (listing image)) out
unfolding printed
always_room image out h = rw (take_all (length out) (listing image) (omega (arith, listing_length image)))
