-- A line at the front of some bytes, by what was read of its two numbers.
use Rattle.std.specs.Prelude.{Option, Some, None, ◌≡◌, refl, ℕ, ◌+◌, ◌≤◌, Bool, true, false, ◌⊎◌, eqb, if◌then◌else◌}
use Rattle.std.proofs.Common.{sym, ◌∙◌, arith, true≢false, inl, inr, eqb-true}
use Rattle.std.proofs.Math.Path.{ap}
use mathlib.Core.List.{List, [], ◌∷◌, ◌++◌, append_assoc, append_cancel_left}
use lib.ListN.{length, drop, length-drop, length-append}
use Rattle.std.proofs.Math.Seq.{drop-drop}
use Rattle.std.proofs.lemmas.Bool.{eqb-false}
use Rattle.std.specs.List.{starts_with}
use Rattle.std.proofs.lemmas.Bool.Decides.{Decides-eqb}
use Rattle.std.proofs.lemmas.Slice.Eq.{starts_is}
use Rattle.rules.specs.Doc.Text.{ascii, decimal}
use Rattle.rules.specs.Doc.Listing.{newline}
use Rattle.sheet_rules.specs.Doc.Rows.{row_text}
use Rattle.sheet_rules.specs.Doc.Lines.{Entry, line_names, line_text}
use Rattle.sheet_rules.specs.Laws.Digits.{NoDigit, split_one}
use Rattle.sheet_rules.specs.Laws.Rows.{line_names_is, row_apart}
use Rattle.sheet_rules.specs.Laws.Shape.{Allowed}
use Rattle.sheet_rules.specs.Laws.Entries.{OtherLine}
use Rattle.sheet_line.specs.Numbers.{NamedTo, NotNamed}
use Rattle.sheet_line.specs.declared.Entry as code

abbrev pub entry : ℕ → ℕ → Entry
entry answer length = record { answer = answer; length = length }

-- the line of an entry up to `end`
pub record LineTo (s : List ℕ) (answer length end : ℕ) : Type 0 where
  pub allows : Allowed (entry answer length)
  pub splits : s ≡ line_text (entry answer length) ++ drop end s
  pub some : 1 ≤ end
  pub inside : end ≤ lib.ListN.length s

abbrev pub LineAt : List ℕ → Option code.Entry → Type 0
LineAt s (Some line) = LineTo s line.answer line.length line.end
LineAt s None = OtherLine s

-- the largest length beside an answer
unfoldable pub most_length : ℕ → ℕ
most_length answer = if eqb answer 0 then 65535 else 0

within_most : (e : Entry) → Allowed e → e.length ≤ most_length e.answer
unfolding most_length
within_most e a = go (eqb e.answer 0) refl a.beside
  where
    go : (t : Bool) → eqb e.answer 0 ≡ t → (e.answer ≡ 0) ⊎ (e.length ≡ 0) → e.length ≤ (if t then 65535 else 0)
    go true f o = a.length
    go false f (inl z) = absurd (eqb-false e.answer 0 f z)
    go false f (inr z) = omega (arith, z)

most_allows : (answer length : ℕ) → answer ≤ 99 → length ≤ most_length answer → Allowed (entry answer length)
unfolding most_length
most_allows answer length h k = go (eqb answer 0) refl k
  where
    go : (t : Bool) → eqb answer 0 ≡ t → length ≤ (if t then 65535 else 0) → Allowed (entry answer length)
    go true f k = record { answer = h; length = k; beside = inl (eqb-true answer 0 f) }
    go false f k = record { answer = h; length = omega (arith, k); beside = inr (omega (arith, k)) }

-- ---- The line of an entry, number by number

abbrev answer_name : List ℕ
answer_name = ascii "answer="

abbrev length_name : List ℕ
length_name = ascii " length="

-- what stands behind the answer
unfoldable behind_answer : Entry → List ℕ → List ℕ
behind_answer e rest = row_text (" length=" ∷ []) (e.length ∷ []) ++ rest

answer_split : (e : Entry) (rest : List ℕ) → line_text e ++ rest ≡ answer_name ++ decimal e.answer ++ behind_answer e rest
unfolding line_text line_names row_text behind_answer
answer_split e rest = append_assoc (answer_name ++ decimal e.answer) (length_name ++ decimal e.length ++ newline) rest

answer_apart : (e : Entry) (rest : List ℕ) → NoDigit (behind_answer e rest)
unfolding behind_answer line_names
answer_apart e rest = row_apart (" length=" ∷ []) line_names_is.1 (e.length ∷ []) rest

length_split : (e : Entry) (rest : List ℕ) → behind_answer e rest ≡ length_name ++ decimal e.length ++ (newline ++ rest)
unfolding behind_answer row_text
length_split e rest = append_assoc (length_name ++ decimal e.length) newline rest

length_apart : (rest : List ℕ) → NoDigit (newline ++ rest)
unfolding row_text
length_apart rest = row_apart [] tt [] rest

-- ---- What was read

-- two names with numbers at the front of the same bytes are one
named_one : (name : List ℕ) {s : List ℕ} {most n end : ℕ} → NamedTo name most s n end → (m : ℕ) (rest : List ℕ) → NoDigit rest
    → s ≡ name ++ decimal m ++ rest → (n ≡ m) × (drop end s ≡ rest)
named_one name {s} {most} {n} {end} t m rest p e =
    let behind = sym (append_assoc name (decimal n) (drop end s)) ∙ sym t.splits ∙ e ∙ append_assoc name (decimal m) rest in
    split_one n m (drop end s) rest t.whole p (append_cancel_left name (decimal n ++ drop end s) (decimal m ++ rest) behind)

module _ (s : List ℕ) where
  pub no_answer : NotNamed answer_name 99 s → OtherLine s
  no_answer p e rest a f = p e.answer (behind_answer e rest) a.answer (answer_apart e rest) (f ∙ answer_split e rest)

  module _ {answer at : ℕ} (named : NamedTo answer_name 99 s answer at) where
    -- a line here has this answer, and goes on behind it
    same_answer_is : (e : Entry) (rest : List ℕ) → s ≡ line_text e ++ rest → (answer ≡ e.answer) × (drop at s ≡ behind_answer e rest)
    same_answer_is e rest f = named_one answer_name named e.answer (behind_answer e rest) (answer_apart e rest) (f ∙ answer_split e rest)

    pub no_length : NotNamed length_name (most_length answer) (drop at s) → OtherLine s
    no_length p e rest a f =
        let (x, y) = same_answer_is e rest f in
        p e.length (newline ++ rest) (rw x (within_most e a)) (length_apart rest) (y ∙ length_split e rest)

    module _ {length more : ℕ} (sized : NamedTo length_name (most_length answer) (drop at s) length more) where
      same_length : (e : Entry) (rest : List ℕ) → s ≡ line_text e ++ rest → (length ≡ e.length) × (drop more (drop at s) ≡ newline ++ rest)
      same_length e rest f =
          let (x, y) = same_answer_is e rest f in
          named_one length_name sized e.length (newline ++ rest) (length_apart rest) (y ∙ length_split e rest)

      pub no_newline : false ≡ starts_with eqb (drop (at + more) s) newline → OtherLine s
      no_newline n e rest a f =
          true≢false (sym ((starts_is Decides-eqb (drop (at + more) s) newline false n).1 rest (sym (drop-drop more at s) ∙ (same_length e rest f).1)))

      module _ (n : true ≡ starts_with eqb (drop (at + more) s) newline) where
        pub whole_line : LineTo s answer length (at + more + 1)
        unfolding line_text line_names row_text
        whole_line =
            let e = entry answer length in
            let last = (starts_is Decides-eqb (drop (at + more) s) newline true n).0 refl in
            let behind : drop 1 (drop (at + more) s) ≡ drop (at + more + 1) s = drop-drop 1 (at + more) s in
            let all : s ≡ answer_name ++ decimal answer ++ (length_name ++ decimal length ++ (newline ++ drop (at + more + 1) s)) =
            named.splits
            ∙ ap (λ (l : List ℕ). answer_name ++ decimal answer ++ l)
            (sized.splits ∙ ap (λ (l : List ℕ). length_name ++ decimal length ++ l) (drop-drop more at s ∙ rw behind at last)) in
            record {
              allows = most_allows answer length named.small sized.small;
              splits = all ∙ rw (← length_split e (drop (at + more + 1) s), ← answer_split e (drop (at + more + 1) s));
              some = omega arith;
              inside = omega (arith, ap lib.ListN.length last, length-append newline (drop 1 (drop (at + more) s)), length-drop (at + more) s);
            }
