-- "Bytes consulted": the positions of an image on which the answer may depend.
use Rattle.std.specs.Prelude.{ℕ, ◌+◌, ◌-◌, min, ◌≡◌, List, [], ◌∷◌, ◌++◌, length, leb, if◌then◌else◌}
use Rattle.rules.specs.Doc.Outcomes.{once}
use Rattle.rules.specs.Doc.Lists.{each}
use Rattle.rules.specs.Doc.Bytes.{byte_at, positions, Span, size_of, bytes_in}
use Rattle.rules.specs.Doc.Walks.{End, ended, cut_at, refused_at, stopped_at, Walk}
use Rattle.rules.specs.Doc.Headers.{Box}
use Rattle.rules.specs.Doc.Levels.{Level}
use Rattle.rules.specs.Doc.Ftyp.{top_level, top}
use Rattle.rules.specs.Doc.Meta.{opened, meta_test}
use Rattle.rules.specs.Doc.Children.{meta_level, children, kept}
use Rattle.rules.specs.Doc.Join.{joined}
use Rattle.rules.specs.Doc.Block.{first_four, block}
use Rattle.rules.specs.Doc.Answers.{handed}

-- ---- Of any walk

-- of its end: where nothing whole stands, what `gap` says of that position
unfoldable pub end_bytes : {A : Type 0} → (ℕ → List ℕ) → End A → List ℕ
end_bytes gap ended = []
end_bytes gap (cut_at k at) = gap at
end_bytes gap (refused_at k x) = []
end_bytes gap (stopped_at x) = []

-- what `thing` says of each thing walked, and that
unfoldable pub walk_bytes : {A : Type 0} → (A → List ℕ) → (ℕ → List ℕ) → Walk A → List ℕ
walk_bytes thing gap w = each thing w.list ++ end_bytes gap w.end

-- ---- Of boxes

-- Of a body that doesn't fit into n bytes, nothing counts.
unfoldable pub span_bytes : ℕ → Span → List ℕ
span_bytes n p = if leb p.to n then positions p.from (size_of p) else []

-- The header of a box walked, and its body where the level opens it.
unfoldable pub box_bytes : Level → ℕ → Box → List ℕ
box_bytes l n b = positions b.start (b.body.from - b.start) ++ (if l.opens b.kind then span_bytes n b.body else [])

-- Of a header that is cut, the bytes present count.
unfoldable pub cut_bytes : ℕ → ℕ → List ℕ
cut_bytes n at = positions at (n - at)

-- of the boxes walked at a level
unfoldable pub boxes_bytes : Level → ℕ → Walk Box → List ℕ
boxes_bytes l n w = walk_bytes (box_bytes l n) (cut_bytes n) w

-- ---- Of an image

-- Of the body of `meta`: its four version bytes, or those present; the headers of the children walked and the bodies of the `iinf` walked;
-- once step 7 is reached, the body of the last `iloc`.
unfoldable pub meta_bytes : List ℕ → List ℕ
meta_bytes body =
    positions 0 (min 4 (length body))
    ++ (once (λ u. boxes_bytes meta_level (length body) (children body)) (meta_test body)
    ++ once (λ k. span_bytes (length body) k.iloc) (kept body))

-- positions in a part that begins at k
unfoldable pub shift : ℕ → List ℕ → List ℕ
shift k [] = []
shift k (i ∷ ps) = (k + i) ∷ shift k ps

-- The headers of the top-level boxes walked; bodies of the `ftyp` walked; of `meta`, if a whole one was opened; the first four joined bytes if
-- step 9 refused nothing and the total is 4 or more; the block if the answer is 0. Length and output length count too: the length of `img`,
-- and `room`.
unfoldable pub consulted : List ℕ → ℕ → List ℕ
consulted img room =
    boxes_bytes top_level (length img) (top img)
    ++ (once (λ m. shift m.body.from (meta_bytes (bytes_in img m.body))) (opened img)
    ++ (once first_four (joined img)
    ++ once (handed room) (block img)))

-- Two images agree on the positions: they have the same byte at each.
abbrev pub Agree : List ℕ → List ℕ → List ℕ → Type 0
Agree a b [] = Unit {0}
Agree a b (i ∷ ps) = (byte_at a i ≡ byte_at b i) × Agree a b ps
