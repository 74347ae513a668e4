-- A line of names and numbers: its numbers can be read again, and it is one line.
use Rattle.std.specs.Prelude.{◌≡◌, refl, ℕ, Bool, false, List, [], ◌∷◌, ◌++◌, length, drop, leb, eqb}
use Rattle.std.proofs.Common.{sym, ap, arith, append_assoc, append-nil, leb-true, ne_eqb}
use Prim.Native.String.{String}
use Rattle.std.proofs.Math.Seq.{drop-append_seam}
use Rattle.rules.specs.Doc.Lists.{any}
use Rattle.rules.specs.Doc.Text.{ascii, decimal}
use Rattle.rules.specs.Doc.Listing.{newline, named}
use Rattle.rules.specs.Demands.Digits.{decimal_back}
use Rattle.rules.specs.Laws.Rows.{both_true, neither}
use Rattle.sheet_rules.specs.Doc.Rows.{row_text, digit_then, digits_in, numbers_in}
use Rattle.sheet_rules.specs.Doc.Lines.{line_names}
use Rattle.sheet_rules.specs.Doc.Sheet.{count_names, total_names}
use Rattle.sheet_rules.specs.Laws.Digits.{AllDigits, NoDigit, decimal_digits, digits_front}

abbrev pub NoNewline : List ℕ → Type 0
NoNewline s = any (λ c. eqb c 10) s ≡ false

-- what is asked of a name: it starts with no digit, so that a number before it ends there, and it has no newline
pub record Name (name : String) : Type 0 where
  pub apart : (rest : List ℕ) → NoDigit (ascii name ++ rest)
  pub flat : NoNewline (ascii name)

abbrev pub Names : List String → Type 0
Names [] = Unit
Names (name ∷ names) = Name name × Names names

-- The names of every line that is read or printed are such.
pub line_names_is : Names line_names
unfolding line_names digits_in digit_then any
line_names_is = (record { apart = λ r. refl; flat = refl }, (record { apart = λ r. refl; flat = refl }, tt))

pub count_names_is : Names count_names
unfolding count_names digits_in digit_then any
count_names_is = (record { apart = λ r. refl; flat = refl }, (record { apart = λ r. refl; flat = refl }, tt))

pub total_names_is : Names total_names
unfolding total_names digits_in digit_then any
total_names_is =
    (record { apart = λ r. refl; flat = refl }, (record { apart = λ r. refl; flat = refl }, (record { apart = λ r. refl; flat = refl }, tt)))

-- ---- Its numbers

-- no digit stands where a name or the newline does
pub row_apart : (names : List String) → Names names → (ns rest : List ℕ) → NoDigit (row_text names ns ++ rest)
unfolding row_text digits_in digit_then
row_apart [] p ns rest = refl
row_apart (name ∷ names) p [] rest = refl
row_apart (name ∷ names) p (n ∷ ns) rest =
    let behind = row_text names ns ++ rest in
    rw (append_assoc (named name n) (row_text names ns) rest, append_assoc (ascii name) (decimal n) behind) (p.0.apart (decimal n ++ behind))

row_end : (names : List String) → Names names → (ns : List ℕ) → NoDigit (row_text names ns)
row_end names p ns = rw (append-nil (row_text names ns)) at (row_apart names p ns [])

pub numbers_back : (names : List String) → Names names → (ns : List ℕ) → length names ≡ length ns → numbers_in names (row_text names ns) ≡ ns
unfolding row_text numbers_in
numbers_back [] p [] e = refl
numbers_back [] p (n ∷ ns) e = absurd (omega (arith, e))
numbers_back (name ∷ names) p [] e = absurd (omega (arith, e))
numbers_back (name ∷ names) p (n ∷ ns) e =
    let rest = row_text names ns in
    let behind : drop (length (ascii name)) (ascii name ++ decimal n ++ rest) ≡ decimal n ++ rest =
    rw (append_assoc) (drop-append_seam (ascii name) (decimal n ++ rest)) in
    rw (behind, digits_front n rest (row_end names p.1 ns), decimal_back n, drop-append_seam (decimal n) rest)
    (ap (λ (l : List ℕ). n ∷ l) (numbers_back names p.1 ns (omega (arith, e))))

-- ---- One line

any_append : (p : ℕ → Bool) (a b : List ℕ) → any p a ≡ false → any p b ≡ false → any p (a ++ b) ≡ false
unfolding any
any_append p [] b e f = f
any_append p (c ∷ a) b e f =
    let (x, y) = neither (p c) (any p a) e in
    rw x (any_append p a b y f)

digits_flat : (ds : List ℕ) → AllDigits ds → NoNewline ds
unfolding any
digits_flat [] p = refl
digits_flat (c ∷ ds) p =
    let low = leb-true 48 c (both_true (leb 48 c) (leb c 57) p.0).0 in
    rw (ne_eqb c 10 (λ e. omega (arith, e))) (digits_flat ds p.1)

-- a row is a line without a newline, and then one
pub record Flat (l : List ℕ) : Type 0 where
  pub front : List ℕ
  pub flat : NoNewline front
  pub is : l ≡ front ++ newline

pub row_flat : (names : List String) → Names names → (ns : List ℕ) → Flat (row_text names ns)
unfolding row_text any
row_flat [] p ns = record { front = []; flat = refl; is = refl }
row_flat (name ∷ names) p [] = record { front = []; flat = refl; is = refl }
row_flat (name ∷ names) p (n ∷ ns) =
    let rest = row_flat names p.1 ns in
    record {
      front = named name n ++ rest.front;
      flat = any_append _ (named name n) rest.front (any_append _ (ascii name) (decimal n) p.0.flat (digits_flat (decimal n) (decimal_digits n))) rest.flat;
      is = rw rest.is (sym (append_assoc (named name n) rest.front newline));
    }
