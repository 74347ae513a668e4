-- Every step before the room refuses with a number of request three: 31 for the start, 1, 2, 32 or 33 for the search. Through the reader above both
-- formats, with one of the search or of HEIF's.
use Rattle.std.specs.Prelude.{◌≡◌, refl, ℕ, ◌+◌, ◌≤◌, ◌<◌, Bool, true, false, ◌||◌, ◌⊎◌, List, length, T, leb, ltb, eqb}
use Rattle.std.proofs.Common.{arith, inl, inr, ⊎_elim, eqb→eq, eqb-true}
use Rattle.std.proofs.Math.Option.{Option, none, some}
use Rattle.rules.specs.Doc.Outcomes.{Outcome, fine, refused}
use Rattle.rules.specs.Doc.Bytes.{byte_at}
use Rattle.rules.specs.Doc.Walks.{End, ended, cut_at, refused_at, stopped_at}
use Rattle.rules.specs.Doc.Block.{block}
use Rattle.rules.specs.Doc.Heif.{is_heif}
use Rattle.rules.specs.Laws.Rows.{by_test}
use Rattle.rules.specs.Laws.Numbered.{Within, went, with_number, row, require_numbered, either, within_larger, WithinStep, at_end, at_cut, at_thing, WithinEnd, in_cut, in_thing, run_numbered}
use Rattle.rules.specs.Laws.Room.{NeitherNumber, Early}
use Rattle.rules.specs.Laws.Refusals.{InTable, in_table_early, in_table_most, block_numbered}
use Rattle.jpeg_rules.specs.Doc.Segments.{prefix, ends_search, lacks_length, marker_at, Segment, body, length_at, length_read, segment_at, is_exif, length_test, said, segment_met, segment_step, segments}
use Rattle.jpeg_rules.specs.Doc.Block.{is_jpeg, block_in, found, found_in, jpeg_block}
use Rattle.jpeg_rules.specs.Doc.Either.{either_block}

abbrev pub InSearchTable : ℕ → Type 0
InSearchTable n = T (eqb n 1 || (eqb n 2 || (eqb n 32 || eqb n 33)))

abbrev pub SearchNumbered : {A : Type 0} → Outcome A → Type 0
SearchNumbered = Within InSearchTable

-- ---- Segments

size_numbered : (s : List ℕ) (at : ℕ) → SearchNumbered (length_at s at)
unfolding length_at
size_numbered s at = row _ _ (require_numbered (leb (at + 3) (length s)) 2 tt) (λ u. went)

read_numbered : (s : List ℕ) (at marker : ℕ) → SearchNumbered (length_read s at marker)
unfolding length_read
read_numbered s at marker = either (ends_search marker || lacks_length marker) _ _ went (row _ _ (size_numbered s at) (λ size. went))

segment_numbered : (s : List ℕ) (start : ℕ) → SearchNumbered (segment_at s start)
unfolding segment_at
segment_numbered s start =
    row _ _ (require_numbered (eqb (byte_at s start) prefix) 32 tt) (λ u. row _ _ (require_numbered (ltb (marker_at s start) (length s)) 2 tt)
    (λ v. row _ _ (read_numbered s (marker_at s start) (byte_at s (marker_at s start))) (λ size. went)))

test_numbered : (size : Option ℕ) → SearchNumbered (length_test size)
unfolding length_test
test_numbered none = went
test_numbered (some size) = require_numbered (leb 2 size) 33 tt

said_numbered : (s : List ℕ) (x : Segment) → SearchNumbered (said s x)
unfolding said
said_numbered s x = row _ _ (test_numbered x.length) (λ u. row _ _ (require_numbered (leb (body x).to (length s)) 2 tt) (λ v. went))

-- ---- The walk

met_numbered : (s : List ℕ) (o : Outcome Segment) → SearchNumbered o → WithinStep InSearchTable (segment_met s o)
unfolding segment_met
met_numbered s (fine x) p = at_thing (said_numbered s x)
met_numbered s (refused n) (with_number p) = at_cut p

step_numbered : (s : List ℕ) (at : ℕ) → WithinStep InSearchTable (segment_step s at)
unfolding segment_step
step_numbered s at = by_test (WithinStep InSearchTable) (leb (length s) at) (λ e. at_end) (λ e. met_numbered s (segment_at s at) (segment_numbered s at))

found_numbered : (img : List ℕ) (e : End Segment) → WithinEnd InSearchTable e → SearchNumbered (found img e)
unfolding found block_in
found_numbered img ended p = with_number tt
found_numbered img (cut_at n at) (in_cut p) = with_number p
found_numbered img (refused_at n x) (in_thing p) = with_number p
found_numbered img (stopped_at x) p = either (is_exif img x) _ _ went (with_number tt)

-- ---- The block

search_numbered : (img : List ℕ) → SearchNumbered (found_in img)
unfolding segments
search_numbered img = found_numbered img (segments img).end (run_numbered (segment_step img) (step_numbered img) (length img) 2)

abbrev pub InJpegTable : ℕ → Type 0
InJpegTable n = (n ≡ 31) ⊎ InSearchTable n

pub jpeg_numbered : (img : List ℕ) → Within InJpegTable (jpeg_block img)
unfolding jpeg_block
jpeg_numbered img =
    row _ _ (require_numbered (is_jpeg img) 31 (inl refl)) (λ u. row _ _ (within_larger (λ n p. inr p) _ (search_numbered img)) (λ p. went))

-- what starts FF D8 is not refused for its start
pub started_numbered : (img : List ℕ) → is_jpeg img ≡ true → SearchNumbered (jpeg_block img)
unfolding jpeg_block
started_numbered img e = rw e (row _ _ (search_numbered img) (λ p. went))

-- those of the search are at most 2, or 32 or 33
search_where : (n : ℕ) → InSearchTable n → (n ≤ 2) ⊎ ((32 ≤ n) × (n ≤ 33))
search_where n p = go (eqb n 1) (eqb n 2) (eqb n 32) refl refl refl p
  where
    go : (a b c : Bool) → eqb n 1 ≡ a → eqb n 2 ≡ b → eqb n 32 ≡ c → T (a || (b || (c || eqb n 33))) → (n ≤ 2) ⊎ ((32 ≤ n) × (n ≤ 33))
    go true b c e f g p = inl (omega (arith, eqb-true n 1 e))
    go false true c e f g p = inl (omega (arith, eqb-true n 2 f))
    go false false true e f g p = inr (omega (arith, eqb-true n 32 g), omega (arith, eqb-true n 32 g))
    go false false false e f g p = inr (omega (arith, eqb→eq n 33 p), omega (arith, eqb→eq n 33 p))

-- so none is above 33
search_most : (n : ℕ) → InSearchTable n → n ≤ 33
search_most n p = ⊎_elim (λ h. omega arith) (λ h. h.1) (search_where n p)

pub jpeg_most : (img : List ℕ) → Within (λ n. n ≤ 33) (jpeg_block img)
jpeg_most img = within_larger (λ n p. ⊎_elim (λ e. omega arith) (search_most n) p) (jpeg_block img) (jpeg_numbered img)

search_early : (n : ℕ) → InSearchTable n → NeitherNumber n
search_early n p = (λ e. rw e at p, λ e. rw e at p)

pub jpeg_early : (img : List ℕ) → Early (jpeg_block img)
jpeg_early img = within_larger (λ n p. ⊎_elim (λ e. (λ z. omega arith, λ z. omega arith)) (search_early n) p) (jpeg_block img) (jpeg_numbered img)

-- ---- Both formats

abbrev pub InEitherTable : ℕ → Type 0
InEitherTable n = InTable n ⊎ InSearchTable n

pub either_numbered : (img : List ℕ) → Within InEitherTable (either_block img)
unfolding either_block
either_numbered img =
    either (is_heif img) _ _ heif
    (by_test (Within InEitherTable) (is_jpeg img) (λ e. within_larger (λ n p. inr p) (jpeg_block img) (started_numbered img e)) (λ e. heif))
  where
    heif : Within InEitherTable (block img)
    heif = within_larger (λ n p. inl p) (block img) (block_numbered img)

pub either_early : (img : List ℕ) → Early (either_block img)
either_early img = within_larger (λ n p. ⊎_elim (in_table_early n) (search_early n) p) (either_block img) (either_numbered img)

-- none is above 33, and none is from 27 to 31
table_most : (n : ℕ) → InEitherTable n → n ≤ 33
table_most n p = ⊎_elim (λ h. omega (arith, in_table_most n h)) (search_most n) p

table_apart : (n : ℕ) → InEitherTable n → 26 < n → n < 32 → ⊥
table_apart n p h k =
    ⊎_elim (λ q. omega (arith, in_table_most n q)) (λ q. ⊎_elim (λ l. omega arith) (λ l. omega (arith, l.0)) (search_where n q)) p

pub either_most : (img : List ℕ) → Within (λ n. n ≤ 33) (either_block img)
either_most img = within_larger table_most (either_block img) (either_numbered img)

pub either_apart : (img : List ℕ) → Within (λ n. 26 < n → n < 32 → ⊥) (either_block img)
either_apart img = within_larger table_apart (either_block img) (either_numbered img)
