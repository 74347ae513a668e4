-- No block is longer than 65,531 bytes: the joined bytes are at most 65,535, and the first four of them are not in the block. It is shown over
-- bytes; what holds there holds over positions.
use Rattle.std.specs.Prelude.{◌≡◌, ℕ, ◌+◌, ◌-◌, ◌≤◌, List, length, drop, leb}
use Rattle.std.proofs.Common.{sym, ap, ◌∙◌, arith, length-drop, leb-true}
use Rattle.std.proofs.Math.Option.{Option}
use Rattle.std.proofs.lemmas.List.{length-map}
use Rattle.rules.specs.Doc.Outcomes.{Outcome, fine, ◌>>=◌, require}
use Rattle.rules.specs.Doc.Bytes.{byte_at, number_at, Span, bytes_in}
use Rattle.rules.specs.Doc.Meta.{opened}
use Rattle.rules.specs.Doc.Children.{kept}
use Rattle.rules.specs.Doc.Iloc.{Extent, extents, chosen}
use Rattle.rules.specs.Doc.Join.{by_method}
use Rattle.rules.specs.Doc.Block.{bytes_at, block_after, block}
use Rattle.rules.specs.OverBytes.{gathered, total_from, block_of, block_from, chosen_block, item_block, kept_block, meta_block}
use Rattle.rules.specs.Laws.Rows.{bind_fine, required}
use Rattle.rules.specs.Laws.Places.{EndsIn, lies_inside}
use Rattle.rules.specs.Laws.Totals.{total_below, total_is}
use Rattle.rules.specs.Laws.Gather.{on_fine}
use Rattle.rules.specs.Laws.Lent.{block_lent}

-- step 10: four of the joined bytes are not in the block
after_limit : (offset : ℕ) (bytes : List ℕ) {b : List ℕ} → fine b ≡ block_after offset bytes → 4 + length b ≤ length bytes
unfolding block_after
after_limit offset bytes {b} e =
    let (u, f, g) = bind_fine (require (leb 4 (length bytes)) 25) _ e in
    let (v, h, i) = bind_fine (require (leb offset (length bytes - 4)) 26) _ g in
    let z : b ≡ drop (4 + offset) bytes = cc in
    rw z (simp length-drop (omega (arith, leb-true 4 (length bytes) (required _ 25 f))))

-- step 9: the total
from_limit : (place : Extent → Outcome Span) (s : List ℕ) → ((x : Extent) → EndsIn (length s) (place x)) → (xs : List Extent) {b : List ℕ}
    → fine b ≡ block_from place s xs → length b ≤ 65531
unfolding block_from block_of
from_limit place s inside xs {b} e =
    let (t, f, g) = bind_fine (total_from place 0 xs) _ e in
    let bytes : List ℕ = gathered place s xs in
    omega (arith, total_below place 0 xs (omega arith) f, total_is place s inside 0 t xs f, after_limit (number_at bytes 0 4) bytes g)

-- the whole of it, from the item to the image
item_limit : (img : List ℕ) (store : Option (List ℕ)) (table : List ℕ) (wanted : ℕ) {b : List ℕ}
    → fine b ≡ item_block img store table wanted → length b ≤ 65531
unfolding item_block chosen_block
item_limit img store table wanted e =
    let (c, f, g) = bind_fine (chosen table wanted) _ e in
    let (s, h, i) = bind_fine (by_method img store c.entry.method) _ g in
    from_limit _ s (lies_inside c.entry.method (length s) c.entry.base) (extents c.sizes table c.entry).list i

pub block_limit : (img : List ℕ) {ps : List ℕ} → block img ≡ fine ps → length ps ≤ 65531
unfolding meta_block kept_block bytes_at
block_limit img {ps} e =
    let whole : fine (bytes_at img ps) ≡ (opened img >>= λ m. meta_block img (bytes_in img m.body))
    = sym (ap (on_fine (bytes_at img)) e) ∙ block_lent img in
    let (m, f, g) = bind_fine (opened img) _ whole in
    let (k, h, i) = bind_fine (kept (bytes_in img m.body)) _ g in
    omega (arith, item_limit img _ _ k.wanted i, length-map ps (byte_at img))
