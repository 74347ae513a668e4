-- From the image to the block by the parts that each function of the code is lent: the body of `meta`, and in it the last `iloc` and `idat`.
use Rattle.std.specs.Prelude.{◌≡◌, Bool, eqb, if◌then◌else◌}
use Rattle.std.proofs.Math.Path.{refl, ap}
use Rattle.std.proofs.Common.{sym, ◌∙◌, arith, ext_get_or, take_all}
use Prim.Native.Nat.{ℕ, ◌+◌, ◌-◌, ◌≤◌, ◌<◌}
use Rattle.std.proofs.Math.Bool.{true, false}
use Rattle.std.proofs.Math.Option.{Option, none, some}
use mathlib.Core.List.{List}
use Rattle.std.proofs.Math.ListN.{length}
use Rattle.rules.specs.Doc.Outcomes.{Outcome, fine, refused, ◌>>=◌, given}
use Rattle.rules.specs.Doc.Bytes.{byte_at, Span, size_of, bytes_in}
use Rattle.rules.specs.Doc.Headers.{Box}
use Rattle.rules.specs.Doc.Meta.{opened}
use Rattle.rules.specs.Doc.Children.{Kept, kept}
use Rattle.rules.specs.Doc.Iloc.{extents, Chosen, chosen}
use Rattle.rules.specs.Doc.Join.{Plan, moved, moved_option, plan_of, plan, source_of, lies, by_method}
use Rattle.rules.specs.Doc.Block.{bytes_at, block}
use Rattle.rules.specs.Doc.Answers.{answer}
use Rattle.rules.specs.Laws.Agreement.{part_at}
use Rattle.rules.specs.OverBytes.{block_from, chosen_block, item_block, plan_block, block_bytes, store_in, kept_block, meta_block, answer_of}
use Rattle.rules.specs.Laws.Gather.{on_fine, block_gathered, answer_gathered}
use Rattle.rules.specs.Laws.Lies.{Lies, part_size, opened_lies, idat_lies}
use Rattle.rules.specs.Laws.Numbers.{bytes_in_is}
use Rattle.rules.specs.Laws.Rows.{bind_assoc, bind_known}

-- ---- Parts of parts

bytes_whole : (s : List ℕ) → bytes_in s (record { from = 0; to = length s }) ≡ s
bytes_whole s = bytes_in_is s (record { from = 0; to = length s }) (omega arith) ∙ take_all (length s - 0) s (omega arith)

byte_in : (s : List ℕ) (p : Span) → p.to ≤ length s → (j : ℕ) → j < size_of p → byte_at (bytes_in s p) j ≡ byte_at s (p.from + j)
byte_in s p h j k = ap (λ (t : List ℕ). byte_at t j) (bytes_in_is s p h) ∙ part_at s p.from (size_of p) j k

bytes_bytes : (img : List ℕ) (b d : Span) → Lies (length img) b → Lies (length (bytes_in img b)) d
    → bytes_in img (moved b.from d) ≡ bytes_in (bytes_in img b) d
unfolding moved
bytes_bytes img b d l i =
    ext_get_or 0 (bytes_in img (moved b.from d)) (bytes_in (bytes_in img b) d)
    (part_size img (moved b.from d) inner ∙ sym (part_size (bytes_in img b) d i.inner ∙ size))
    (λ j h. let k : j < size_of d = omega (arith, part_size img (moved b.from d) inner, size) in same j k)
  where
    size : size_of d ≡ size_of (moved b.from d)
    size = omega arith

    inner : b.from + d.to ≤ length img
    inner = omega (arith, part_size img b l.inner, l.order, l.inner, i.inner)

    same : (j : ℕ) → j < size_of d → byte_at (bytes_in img (moved b.from d)) j ≡ byte_at (bytes_in (bytes_in img b) d) j
    same j k =
        let z : b.from + d.from + j ≡ b.from + (d.from + j) = omega arith in
        byte_in img (moved b.from d) inner j (omega (arith, size)) ∙ ap (byte_at img) z
        ∙ sym (byte_in (bytes_in img b) d i.inner j k ∙ byte_in img b l.inner (d.from + j) (omega (arith, part_size img b l.inner, i.inner)))

-- ---- The method's bytes

module _ (img : List ℕ) (m : Box) (e : opened img ≡ fine m) where
  abbrev body : List ℕ
  body = bytes_in img m.body

  source_named : (o : Option Span) → ((d : Span) → o ≡ some d → Lies (length body) d) → (method : ℕ) (f : List ℕ → Outcome (List ℕ))
      → (source_of (length img) (moved_option m.body.from o) method >>= λ source. f (bytes_in img source)) ≡ (by_method img (store_in body o) method >>= f)
  unfolding source_of by_method moved_option store_in
  source_named o l method f = go (eqb method 0) (eqb method 1) (eqb method 2) o l
    where
      go : (t₀ t₁ t₂ : Bool) (o : Option Span) → ((d : Span) → o ≡ some d → Lies (length (bytes_in img m.body)) d)
          → ((if t₀ then fine (record { from = 0; to = length img }) else if t₁ then given (moved_option m.body.from o) 21 else if t₂ then refused 22 else refused 23)
          >>= λ source. f (bytes_in img source))
          ≡ ((if t₀ then fine img else if t₁ then given (store_in (bytes_in img m.body) o) 21 else if t₂ then refused 22 else refused 23) >>= f)
      go true t₁ t₂ o l = ap f (bytes_whole img)
      go false true t₂ none l = refl
      go false true t₂ (some d) l = ap f (bytes_bytes img m.body d (opened_lies img m e) (l d refl))
      go false false true o l = refl
      go false false false o l = refl

  kept_lent : (k : Kept) → kept body ≡ fine k → (plan_of m.body.from body k >>= plan_block img) ≡ kept_block img body k
  unfolding plan_of kept_block item_block chosen_block
  kept_lent k h =
      let table : List ℕ = bytes_in body k.iloc in
      bind_assoc (chosen table k.wanted) (λ c. fine (planned table c)) _
      ∙ bind_known (chosen table k.wanted)
      (λ c g. source_named k.idat (λ d q. idat_lies body k d h q) c.entry.method
      (λ s. block_from (lies c.entry.method (length s) c.entry.base) s (extents c.sizes table c.entry).list))
    where
      planned : List ℕ → Chosen → Plan
      planned table c = record { entry = c.entry; parts = (extents c.sizes table c.entry).list; idat = moved_option m.body.from k.idat }

  meta_lent : (plan m.body.from body >>= plan_block img) ≡ meta_block img body
  unfolding plan meta_block
  meta_lent = bind_assoc (kept body) (plan_of m.body.from body) _ ∙ bind_known (kept body) (λ k h. kept_lent k h)

image_lent : (img : List ℕ) → block_bytes img ≡ (opened img >>= λ m. meta_block img (bytes_in img m.body))
unfolding block_bytes
image_lent img = bind_known (opened img) (λ m e. meta_lent img m e)

-- Document 01's block, and its answer, from the first `meta` on.
pub block_lent : (img : List ℕ) → on_fine (bytes_at img) (block img) ≡ (opened img >>= λ m. meta_block img (bytes_in img m.body))
block_lent img = block_gathered img ∙ image_lent img

pub answer_lent : (img out : List ℕ) → answer img out ≡ answer_of out (opened img >>= λ m. meta_block img (bytes_in img m.body))
answer_lent img out = answer_gathered img out ∙ ap (answer_of out) (image_lent img)
