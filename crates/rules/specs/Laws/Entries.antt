-- Entries one after another, of which the last wanted one is chosen: what a loop of the code follows, and what is known of the chosen one.
use Rattle.std.specs.Prelude.{◌≡◌, ◌⊎◌, Bool, true, false, List, ℕ, zero, suc, ◌+◌, ◌-◌, ◌%◌, ◌≤◌, ◌<◌, length, leb, eqb, if◌then◌else◌}
use Rattle.std.proofs.Math.Path.{refl, sym, ap}
use Rattle.std.proofs.Common.{◌∙◌, subst, inl, inr, arith, lit<}
use Rattle.std.proofs.Math.Option.{Option, none, some, none-ne-some, map-id}
use Rattle.rules.specs.Doc.Outcomes.{Outcome, fine, refused, ◌>>=◌, require, given}
use Rattle.rules.specs.Doc.Lists.{only, last_of}
use Rattle.rules.specs.Doc.Bytes.{field, sized, version}
use Rattle.rules.specs.Doc.Walks.{onward, Walk, bare, walked, judged, after, run, outcome}
use Rattle.rules.specs.Doc.Iloc.{Sizes, Table, id_size, sizes_of, base_size_of, table_of, method_size, in_file, Entry, entry_at}
use Rattle.rules.specs.Doc.Iloc.{extents, is_wanted, entry_end, extents_test, entry_next, entry_met, entries, Chosen, chosen_in, chosen}
use Rattle.rules.specs.Laws.Rows.{apart, bind_fine, bind_cong}
use Rattle.rules.specs.Laws.Endian.{Bytes}
use Rattle.rules.specs.Laws.Numbers.{number_below}
use Rattle.rules.specs.Laws.Fold.{folded}
use Rattle.rules.specs.Laws.Last.{or_else, keep, kept_last, keep_or}
use Rattle.rules.specs.Laws.Fields.{Stands, field_stands}
use Rattle.rules.specs.Laws.Extents.{Small, Kth, extents_length, extents_kth}

-- ---- Entries

-- the extents of an entry are not refused
abbrev Passed : Sizes → List ℕ → Entry → Type 0
Passed z body e = fine tt ≡ outcome (extents z body e).end

-- an entry, if it is of the wanted id
abbrev pub if_wanted : ℕ → Entry → Option Entry
if_wanted wanted e = if is_wanted wanted e then some e else none

-- None is 17.
abbrev as_chosen : Table → Option Entry → Outcome Chosen
as_chosen t o = given o 17 >>= λ e. fine (record { sizes = t.sizes; entry = e })

module _ (t : Table) (body : List ℕ) (wanted : ℕ) where
  abbrev from : ℕ → ℕ → Walk Entry
  from n at = run (λ at. entry_met t body wanted (entry_at t body at)) n at

  -- what comes of a walk over entries, where `o` is the last wanted one before them
  abbrev chosen_by : Option Entry → Walk Entry → Outcome Chosen
  chosen_by o w = outcome w.end >>= λ u. as_chosen t (folded (keep (is_wanted wanted) (λ e. e)) o w.list)

  -- the same of n entries from a position on
  unfoldable pub chosen_from : Option Entry → ℕ → ℕ → Outcome Chosen
  chosen_from o n at = chosen_by o (from n at)

  pub chosen_all : chosen_from none t.count t.from ≡ chosen_in t body wanted
  unfolding chosen_from chosen_in entries
  chosen_all =
      let w = entries t body wanted in
      let last = last_of (only (is_wanted wanted) w.list) in
      bind_cong (outcome w.end) (λ u. ap (as_chosen t) (kept_last (is_wanted wanted) (λ e. e) w.list ∙ ap (λ (f : Option Entry → Option Entry). f last) map-id))

  chosen_done : (o : Option Entry) (at : ℕ) → chosen_from o 0 at ≡ as_chosen t o
  unfolding chosen_from run bare outcome folded
  chosen_done o at = refl

  -- an entry, and n more: it takes the place of the one before it if it is wanted
  abbrev entry_then : Option Entry → ℕ → Entry → Outcome Chosen
  entry_then o n e = entry_next t body wanted e >>= λ next. chosen_from (or_else (if_wanted wanted e) o) n next

  chosen_next : (o : Option Entry) (n at : ℕ) → chosen_from o (suc n) at ≡ (entry_at t body at >>= entry_then o n)
  unfolding chosen_from run after judged walked bare outcome entry_met folded
  chosen_next o n at = go (entry_at t body at)
    where
      said : (e : Entry) (v : Outcome ℕ)
          → chosen_by o (walked e (judged e (v >>= λ next. fine (onward next)) (from n)))
          ≡ (v >>= λ next. chosen_from (or_else (if_wanted wanted e) o) n next)
      said e (fine next) = ap (λ (o : Option Entry). chosen_from o n next) (sym (keep_or (is_wanted wanted) o e))
      said e (refused m) = refl

      go : (a : Outcome Entry) → chosen_by o (after at (entry_met t body wanted a) (from n)) ≡ (a >>= entry_then o n)
      go (fine e) = said e (entry_next t body wanted e)
      go (refused m) = refl

  next_passed : (e : Entry) {next : ℕ} → is_wanted wanted e ≡ true → fine next ≡ entry_next t body wanted e → Passed t.sizes body e
  unfolding entry_next extents_test
  next_passed e w h = (bind_fine (outcome (extents t.sizes body e).end) (λ u. fine (entry_end t e)) (rw w at h)).1

  -- what is chosen is the last wanted one before, or one of the entries
  abbrev Known : Option Entry → Chosen → Type 0
  Known o c = (c.sizes ≡ t.sizes) × ((o ≡ some c.entry) ⊎ Passed t.sizes body c.entry)

  chosen_from_is : (o : Option Entry) (n at : ℕ) {c : Chosen} → fine c ≡ chosen_from o n at → Known o c
  chosen_from_is o zero at {c} h = go o (h ∙ chosen_done o at)
    where
      go : (o : Option Entry) → fine c ≡ as_chosen t o → Known o c
      go none h = absurd (apart h)
      go (some e) h = let same : record { sizes = t.sizes; entry = e } ≡ c = cc in subst (Known (some e)) same (refl, inl refl)
  chosen_from_is o (suc n) at {c} h =
      let (e, p, h₁) = bind_fine (entry_at t body at) _ (h ∙ chosen_next o n at) in
      let (next, q, h₂) = bind_fine (entry_next t body wanted e) _ h₁ in
      let (same, r) = chosen_from_is (or_else (if_wanted wanted e) o) n next h₂ in
      (same, go e (is_wanted wanted e) refl (λ w. next_passed e w q) r)
    where
      go : (e : Entry) (b : Bool) → is_wanted wanted e ≡ b → (is_wanted wanted e ≡ true → Passed t.sizes body e)
          → (or_else (if b then some e else none) o ≡ some c.entry) ⊎ Passed t.sizes body c.entry
          → (o ≡ some c.entry) ⊎ Passed t.sizes body c.entry
      go e true w p (inl q) = let same : e ≡ c.entry = cc in inr (subst (Passed t.sizes body) same (p w))
      go e false w p (inl q) = inl q
      go e b w p (inr q) = inr q

-- in a loop over the entries: after i of n, with `o` the last wanted one so far, those from `at` on decide the answer
module _ (t : Table) (body : List ℕ) (wanted n i at : ℕ) (o : Option Entry) {answer : Outcome Chosen}
    (inv : chosen_from t body wanted o (n - i) at ≡ answer) where
  pub entries_end : n ≤ i → as_chosen t o ≡ answer
  entries_end h =
      let z : n - i ≡ 0 = omega arith in
      rw (z, chosen_done t body wanted o at) at inv

  module _ (h : i < n) where
    more : (entry_at t body at >>= entry_then t body wanted o (n - (i + 1))) ≡ answer
    more =
        let k : n - i ≡ suc (n - (i + 1)) = omega arith in
        rw (k, chosen_next t body wanted o (n - (i + 1)) at) at inv

    pub entry_refused : {k : ℕ} → refused k ≡ entry_at t body at → refused k ≡ answer
    entry_refused p = rw (← p) at more

    module _ {e : Entry} (p : fine e ≡ entry_at t body at) where
      pub extents_refused : {k : ℕ} → refused k ≡ entry_next t body wanted e → refused k ≡ answer
      extents_refused q = rw (← p, ← q) at more

      -- an entry that is wanted takes the place of the one before it
      pub entry_passed : {next : ℕ} {w l : Option Entry} → fine next ≡ entry_next t body wanted e → w ≡ if_wanted wanted e → l ≡ or_else w o
          → chosen_from t body wanted l (n - (i + 1)) next ≡ answer
      entry_passed q f g = rw (g, f) (rw (← p, ← q) at more)

-- ---- The chosen entry

-- an entry, and sizes, that are chosen for some item
pub record Chose (body : List ℕ) (c : Chosen) : Type 0 where
  pub wanted : ℕ
  pub is : chosen body wanted ≡ fine c

module _ (body : List ℕ) (c : Chosen) (h : Chose body c) where
  chose_passed : Passed c.sizes body c.entry
  unfolding chosen
  chose_passed =
      let (t, p, q) = bind_fine (table_of body) _ (sym h.is) in
      let (same, r) = chosen_from_is t body h.wanted none t.count t.from (q ∙ sym (chosen_all t body h.wanted)) in
      rw same (go t.sizes r)
    where
      go : (z : Sizes) → (none ≡ some c.entry) ⊎ Passed z body c.entry → Passed z body c.entry
      go z (inl e) = absurd (none-ne-some _ e)
      go z (inr p) = p

  pub chose_length : length (extents c.sizes body c.entry).list ≡ c.entry.count
  chose_length = extents_length c.sizes body c.entry chose_passed

  pub chose_kth : (k : ℕ) → k < c.entry.count → Kth c.sizes body c.entry.from k (extents c.sizes body c.entry).list
  chose_kth k l = extents_kth c.sizes body c.entry chose_passed k l

-- ---- An entry that was read

-- The count of extents has two bytes, and they begin inside the body.
pub record EntryIn (body : List ℕ) (e : Entry) : Type 0 where
  pub count : e.count < 65536
  pub from : e.from ≤ length body

pub entry_in_is : (t : Table) (body : List ℕ) (at : ℕ) {e : Entry} → Bytes body → fine e ≡ entry_at t body at → EntryIn body e
unfolding entry_at
entry_in_is t body at {e} b h =
    let ref_at = at + id_size t.version + method_size t.version in
    let countAt = ref_at + 2 + t.base_size in
    let (i, p₁, h₁) = bind_fine (field body at (id_size t.version)) _ h in
    let (m, p₂, h₂) = bind_fine (field body (at + id_size t.version) (method_size t.version)) _ h₁ in
    let (r, p₃, h₃) = bind_fine (field body ref_at 2) _ h₂ in
    let (u, p₄, h₄) = bind_fine (require (in_file (m % 16) r) 15) _ h₃ in
    let (o, p₅, h₅) = bind_fine (sized body (ref_at + 2) t.base_size 11) _ h₄ in
    let (n, p₆, h₆) = bind_fine (field body countAt 2) _ h₅ in
    go countAt i (m % 16) o n (field_stands body countAt 2 p₆) h₆
  where
    go : (at i m o n : ℕ) → Stands body at 2 n → fine e ≡ fine (record { id = i; method = m; base = o; count = n; from = at + 2 }) → EntryIn body e
    go at i m o n s h =
        let same : record { id = i; method = m; base = o; count = n; from = at + 2 } ≡ e = cc in
        subst (EntryIn body) same (record { count = omega (arith, s.is, number_below body at 2 b); from = omega (arith, s.inside) })

-- ---- The table's sizes are half-bytes

pub table_small : (body : List ℕ) {t : Table} → Bytes body → fine t ≡ table_of body → Small t.sizes
unfolding table_of sizes_of
table_small body {t} b h =
    let (v, p₁, h₁) = bind_fine (version body 0) _ h in
    let (halves, p₂, h₂) = bind_fine (field body 4 2) _ h₁ in
    let (u, p₃, h₃) = bind_fine (require (leb v 2) 10) _ h₂ in
    let (n, p₄, h₄) = bind_fine (field body 6 (id_size v)) _ h₃ in
    let k : halves < 65536 = omega (arith, (field_stands body 4 2 p₂).is, number_below body 4 2 b) in
    let same : t ≡ record { version = v; sizes = sizes_of v halves; base_size = base_size_of halves; count = n; from = 6 + id_size v } = cc in
    subst (λ (t : Table). Small t.sizes) (sym same)
    (record { index = go (eqb v 0) (halves % 16) (omega arith); offset = omega arith; length = omega arith })
  where
    go : (b : Bool) (x : ℕ) → x < 16 → (if b then 0 else x) < 16
    go true x h = lit< tt
    go false x h = h
