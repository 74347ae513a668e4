-- The lines up to a place, counted, and what each turn of the loop over them makes of it.
use Rattle.std.specs.Prelude.{Result, Ok, Err, max, ltb, ◌≡◌, refl, ℕ, suc, ◌+◌, ◌*◌, ◌≤◌, ◌<◌, Bool, true, false, List, [], ◌∷◌, ◌++◌, drop, get_or, set, replicate, eqb}
use Rattle.std.proofs.Common.{ltb-true, ltb-false, sym, ◌∙◌, arith, add-one, append_assoc, append-nil, length-set, get_or-set_same, get_or-set_other, eqb-true}
use Rattle.std.proofs.Math.Path.{ap}
use Rattle.std.proofs.Math.ListN.{length, length-append}
use Rattle.std.proofs.lemmas.List.{nil_from_length, length-replicate, get_or-replicate}
use Rattle.std.proofs.lemmas.Bool.{eqb-false}
use Rattle.rules.specs.Doc.Outcomes.{Outcome, fine, refused, ◌>>=◌}
use Rattle.rules.specs.Doc.Lists.{only}
use Rattle.rules.specs.Laws.Rows.{by_test}
use Rattle.sheet_rules.specs.Doc.Lines.{lines, Entry}
use Rattle.sheet_rules.specs.Doc.Sheet.{most_lines, entries_from, entries, files_with, sum, larger, largest_of, lengths, Totals, totals}
use Rattle.sheet_rules.specs.Laws.Entries.{OtherLine, entries_none, entries_line, entries_many, entries_other}
use Rattle.sheet_rules.specs.Laws.Counts.{files_same, files_other, bytes_more, largest_more, AllAllowed, allowed_more, files_most, bytes_most, largest_most}
use Rattle.sheet_line.specs.Shape.{entry, LineTo}
use Rattle.sheet.specs.declared.counted.Totals as code

-- the files of each answer
pub record Tally (counts : List ℕ) (es : List Entry) : Type 0 where
  pub size : length counts ≡ 100
  pub files : (a : ℕ) → a < 100 → get_or counts a 0 ≡ files_with a es

abbrev pub totalled : code.Totals → Totals
totalled t = record { files = t.files; bytes = t.bytes; largest = t.largest }

-- what was counted: entries with these files of each answer, and these totals
pub record Sums (counts : List ℕ) (t : Totals) (es : List Entry) : Type 0 where
  pub allows : AllAllowed es
  pub few : length es ≤ most_lines
  pub tally : Tally counts es
  pub totals_are : t ≡ totals es

-- ---- What the answers say

pub record Summed (s counts : List ℕ) (t : Totals) : Type 0 where
  pub es : List Entry
  pub are : entries s ≡ fine es
  pub sums : Sums counts t es

abbrev pub CountedOf : List ℕ → List ℕ → Result code.Totals ℕ → Type 0
CountedOf s counts (Ok t) = Summed s counts (totalled t)
CountedOf s counts (Err line) = entries s ≡ refused line

-- ---- One entry more

tally_none : (counts : List ℕ) → counts ≡ replicate 100 0 → Tally counts []
unfolding files_with only
tally_none counts e = record { size = rw e (length-replicate {A = ℕ} 100 0); files = λ a h. rw e (get_or-replicate {A = ℕ} 100 a 0 0 h) }

tally_more : (counts : List ℕ) (es : List Entry) (e : Entry) → e.answer ≤ 99 → Tally counts es
    → Tally (set counts e.answer (get_or counts e.answer 0 + 1)) (es ++ (e ∷ []))
tally_more counts es e h t =
    record { size = length-set counts e.answer (get_or counts e.answer 0 + 1) ∙ t.size; files = λ a k. go a k (eqb e.answer a) refl }
  where
    go : (a : ℕ) → a < 100 → (u : Bool) → eqb e.answer a ≡ u
        → get_or (set counts e.answer (get_or counts e.answer 0 + 1)) a 0 ≡ files_with a (es ++ (e ∷ []))
    go a k true f =
        rw (← eqb-true e.answer a f)
        (get_or-set_same counts e.answer (get_or counts e.answer 0 + 1) 0 (omega (arith, t.size))
        ∙ rw (t.files e.answer (omega arith)) (sym (files_same e es)))
    go a k false f =
        let other = eqb-false e.answer a f in
        get_or-set_other counts e.answer a (get_or counts e.answer 0 + 1) 0 (λ z. other (sym z))
        ∙ t.files a k
        ∙ sym (files_other a e es other)

-- ---- Up to a place

-- `rest` stands behind the lines that are counted
pub record Counting (s counts : List ℕ) (t : Totals) (rest : List ℕ) : Type 0 where
  pub es : List Entry
  pub sums : Sums counts t es
  pub reads : entries s ≡ (entries_from (suc t.files) (lines rest) >>= λ fs. fine (es ++ fs))

none_before : (o : Outcome (List Entry)) → o ≡ (o >>= λ fs. fine ([] ++ fs))
none_before (fine fs) = refl
none_before (refused n) = refl

one_more : (o : Outcome (List Entry)) (es : List Entry) (e : Entry)
    → ((o >>= λ fs. fine (e ∷ fs)) >>= λ fs. fine (es ++ fs)) ≡ (o >>= λ fs. fine (es ++ (e ∷ []) ++ fs))
one_more (fine fs) es e = ap fine (sym (append_assoc es (e ∷ []) fs))
one_more (refused n) es e = refl

pub counting_none : (s counts : List ℕ) → counts ≡ replicate 100 0 → Counting s counts (record { files = 0; bytes = 0; largest = 0 }) s
unfolding entries totals lengths sum largest_of
counting_none s counts e =
    record {
      es = [];
      sums = record { allows = tt; few = omega arith; tally = tally_none counts e; totals_are = refl };
      reads = none_before (entries_from 1 (lines s));
    }

-- the totals of one file more
abbrev pub totals_more : Totals → ℕ → Totals
totals_more t length = record { files = t.files + 1; bytes = t.bytes + length; largest = max t.largest length }

max_larger : (a b : ℕ) → max a b ≡ larger a b
unfolding larger
max_larger a b = by_test (λ (n : ℕ). max a b ≡ n) (ltb a b) (λ e. omega (arith, ltb-true a b e)) (λ e. omega (arith, ltb-false a b e))

module _ (s counts : List ℕ) (t : Totals) (rest : List ℕ) (c : Counting s counts t rest) where
  pub files_are : t.files ≡ length c.es
  unfolding totals
  files_are = ap (λ (t : Totals). t.files) c.sums.totals_are

  bytes_are : t.bytes ≡ sum (lengths c.es)
  unfolding totals
  bytes_are = ap (λ (t : Totals). t.bytes) c.sums.totals_are

  largest_is : t.largest ≡ largest_of (lengths c.es)
  unfolding totals
  largest_is = ap (λ (t : Totals). t.largest) c.sums.totals_are

  -- so no sum overflows
  pub files_few : t.files ≤ most_lines
  files_few = omega (arith, files_are, c.sums.few)

  pub bytes_few : t.bytes ≤ 65535 * t.files
  bytes_few = rw (bytes_are, files_are) (bytes_most c.es c.sums.allows)

  pub largest_few : t.largest ≤ 65535
  largest_few = rw largest_is (largest_most c.es c.sums.allows)

  pub answer_few : (a : ℕ) → a < 100 → get_or counts a 0 ≤ most_lines
  answer_few a h = rw (c.sums.tally.files a h) (omega (arith, files_most a c.es, c.sums.few))

  pub counting_done : length rest ≡ 0 → Summed s counts t
  counting_done h =
      let none : entries_from (suc t.files) (lines rest) ≡ fine [] = rw (nil_from_length rest h) (entries_none (suc t.files)) in
      record { es = c.es; are = c.reads ∙ rw (none, append-nil c.es); sums = c.sums }

  module _ (more : 1 ≤ length rest) where
    pub counting_many : most_lines < t.files + 1 → entries s ≡ refused (t.files + 1)
    counting_many h = c.reads ∙ rw (← add-one t.files, entries_many (t.files + 1) rest more h)

    module _ (few : t.files + 1 ≤ most_lines) where
      pub counting_other : OtherLine rest → entries s ≡ refused (t.files + 1)
      counting_other p = c.reads ∙ rw (← add-one t.files, entries_other (t.files + 1) rest more few p)

      module _ {answer length end : ℕ} (l : LineTo rest answer length end) where
        sums_more : Sums (set counts answer (get_or counts answer 0 + 1)) (totals_more t length) (c.es ++ (entry answer length ∷ []))
        unfolding totals
        sums_more =
            let e = entry answer length in
            let n = length-append c.es (e ∷ []) in
            record {
              allows = allowed_more c.es e c.sums.allows l.allows;
              few = omega (arith, n, files_are);
              tally = tally_more counts c.es e l.allows.answer c.sums.tally;
              totals_are = rw (bytes_more c.es e, largest_more c.es e, n, max_larger t.largest length, ← files_are, ← bytes_are, ← largest_is);
            }

        reads_more : entries s ≡ (entries_from (suc (t.files + 1)) (lines (drop end rest)) >>= λ fs. fine (c.es ++ (entry answer length ∷ []) ++ fs))
        reads_more =
            let e = entry answer length in
            let first : entries_from (suc t.files) (lines rest) ≡ (entries_from (suc (suc t.files)) (lines (drop end rest)) >>= λ fs. fine (e ∷ fs)) =
            ap (λ (r : List ℕ). entries_from (suc t.files) (lines r)) l.splits
            ∙ entries_line (suc t.files) e (drop end rest) (omega arith) l.allows in
            c.reads ∙ rw (first, add-one t.files) (one_more (entries_from (suc (suc t.files)) (lines (drop end rest))) c.es e)

        pub counting_more : Counting s (set counts answer (get_or counts answer 0 + 1)) (totals_more t length) (drop end rest)
        counting_more = record { es = c.es ++ (entry answer length ∷ []); sums = sums_more; reads = reads_more }
