-- No two answers say the same, so each contract of this crate determines its function's answer.
use Rattle.std.specs.Prelude.{◌≡◌, refl, ℕ, ◌+◌, ◌-◌, ◌≤◌, Bool, List, [], ◌∷◌, length, T, leb, eqb, if◌then◌else◌, Result, Ok, Err}
use Rattle.std.proofs.Common.{sym, ap, ap₂, ◌∙◌, arith, leb→le}
use Rattle.rules.specs.Doc.Outcomes.{Outcome, fine, refused}
use Rattle.rules.specs.Doc.Bytes.{size_of}
use Rattle.rules.specs.Cases.{every}
use Rattle.rules.specs.Doc.Headers.{Box, box_of, whole, announced, standing, file_box_at}
use Rattle.rules.specs.Laws.Back.{one}
use Rattle.rules.specs.Laws.Rows.{both, by_test}
use Rattle.rules.specs.Results.{outcome, result_one}
use Rattle.boxes.specs.Told.{number, announces, child, file_box, field_of}
use Rattle.boxes.specs.declared.refusal.Refusal.{Refusal}
use Rattle.boxes.specs.declared.refusal.Refusal.TheVariants as r
use Rattle.boxes.specs.declared.header.Header.{Header}
use Rattle.boxes.specs.declared.header.Unread.{Unread}
use Rattle.boxes.specs.declared.header.Unread.TheVariants as u
use Rattle.boxes.specs.declared.level.Child.{Child}

-- ---- Refusals

-- all of them; there is a gap in their numbers, so a place in the list is not a number
refusals : List Refusal
refusals =
    r.NotFound
    ∷ r.ImageEnds
    ∷ r.BoxTooSmall
    ∷ r.InvalidBoxSize
    ∷ r.LargeSeek
    ∷ r.MetaBeforeFtyp
    ∷ r.NoKnownBrand
    ∷ r.MetaVersion
    ∷ r.InfeVersion
    ∷ r.IlocVersion
    ∷ r.BaseOffsetSize
    ∷ r.IndexSize
    ∷ r.OffsetSize
    ∷ r.LengthSize
    ∷ r.ExternalReference
    ∷ r.NoIloc
    ∷ r.NoMatchingEntry
    ∷ r.InvalidOffset
    ∷ r.InvalidLength
    ∷ r.OutOfIdat
    ∷ r.NoIdat
    ∷ r.ByItemOffset
    ∷ r.UnknownMethod
    ∷ r.TooLarge
    ∷ r.UnderFour
    ∷ r.HeaderOffset
    ∷ r.NoRoom
    ∷ r.ListingTooLong
    ∷ r.NotJpeg
    ∷ r.NoMarker
    ∷ r.SegmentTooSmall
    ∷ []

-- the one of a list with a number
numbered : ℕ → List Refusal → Refusal
numbered n [] = r.NotFound
numbered n (x ∷ xs) = if eqb (number x) n then x else numbered n xs

pub as_refusal : ℕ → Refusal
as_refusal n = numbered n refusals

pub refusal_back : (x : Refusal) → as_refusal (number x) ≡ x
unfolding as_refusal numbered refusals
refusal_back r.NotFound = refl
refusal_back r.ImageEnds = refl
refusal_back r.BoxTooSmall = refl
refusal_back r.InvalidBoxSize = refl
refusal_back r.LargeSeek = refl
refusal_back r.MetaBeforeFtyp = refl
refusal_back r.NoKnownBrand = refl
refusal_back r.MetaVersion = refl
refusal_back r.InfeVersion = refl
refusal_back r.IlocVersion = refl
refusal_back r.BaseOffsetSize = refl
refusal_back r.IndexSize = refl
refusal_back r.OffsetSize = refl
refusal_back r.LengthSize = refl
refusal_back r.ExternalReference = refl
refusal_back r.NoIloc = refl
refusal_back r.NoMatchingEntry = refl
refusal_back r.InvalidOffset = refl
refusal_back r.InvalidLength = refl
refusal_back r.OutOfIdat = refl
refusal_back r.NoIdat = refl
refusal_back r.ByItemOffset = refl
refusal_back r.UnknownMethod = refl
refusal_back r.TooLarge = refl
refusal_back r.UnderFour = refl
refusal_back r.HeaderOffset = refl
refusal_back r.NoRoom = refl
refusal_back r.ListingTooLong = refl
refusal_back r.NotJpeg = refl
refusal_back r.NoMarker = refl
refusal_back r.SegmentTooSmall = refl

-- no refusal is numbered 0, as success is
pub not_done : (x : Refusal) → number x ≡ 0 → ⊥
unfolding as_refusal numbered refusals
not_done x e =
    let f : number r.NotFound ≡ number x = ap number (ap as_refusal (sym e) ∙ refusal_back x) in
    omega arith

-- what holds of each in a list holds of the one that is found
found_holds : (p : Refusal → Bool) (n : ℕ) (xs : List Refusal) → T (every p xs) → T (p r.NotFound) → T (p (numbered n xs))
unfolding numbered every
found_holds p n [] e h = h
found_holds p n (x ∷ xs) e h = by_test (λ y. T (p y)) (eqb (number x) n) (λ t. (both (p x) (every p xs) e).0) (λ t. found_holds p n xs (both (p x) (every p xs) e).1 h)

-- No refusal is numbered above 33.
pub number_limit : (x : Refusal) → number x ≤ 33
unfolding as_refusal refusals every
number_limit x =
    let t : T (leb (number (as_refusal (number x))) 33) = found_holds (λ (y : Refusal). leb (number y) 33) (number x) refusals tt tt in
    leb→le (number x) 33 (rw (refusal_back x) at t)

pub refusal_one : {x y : Refusal} → number x ≡ number y → x ≡ y
refusal_one {x} {y} e = one number as_refusal refusal_back e refl

-- a `Result` whose value can be told back is determined by what it says
pub refusal_result_one : {A B : Type 0} (tell : A → B) (back : B → A) → ((a : A) → back (tell a) ≡ a)
    → {o : Outcome B} {x y : Result A Refusal} → outcome number tell x ≡ o → outcome number tell y ≡ o → x ≡ y
refusal_result_one tell back same e f = result_one number as_refusal refusal_back tell back same e f

-- of `Refusal::number`
pub refusal_number_one : (e : Refusal) {x y : ℕ} → x ≡ number e → y ≡ number e → x ≡ y
refusal_number_one e p q = p ∙ sym q

-- of `left`
pub left_one : (s : List ℕ) (at : ℕ) {x y : ℕ} → x ≡ length s - at → y ≡ length s - at → x ≡ y
left_one s at p q = p ∙ sym q

-- ---- Headers

-- from what is told with 0 and with 1 for a cut header: only of a cut one do they differ
as_header : Outcome Box → Outcome Box → Result Header Unread
as_header (fine b) o = Ok (record { kind = b.kind; from = b.body.from; size = size_of b.body })
as_header (refused m) (fine b) = Err u.Cut
as_header (refused m) (refused n) = if eqb m n then Err u.Invalid else Err u.Cut

size_back : (from size : ℕ) → from + size - from ≡ size
size_back from size = omega arith

header_back : (at : ℕ) (x : Result Header Unread) → as_header (announces 0 at x) (announces 1 at x) ≡ x
unfolding as_header
header_back at (Err u.Cut) = refl
header_back at (Err u.Invalid) = refl
header_back at (Ok h) = rw (size_back h.from h.size)

pub header_one : (s : List ℕ) (at : ℕ) {x y : Result Header Unread}
    → ((cut : ℕ) → announces cut at x ≡ announced cut s at) → ((cut : ℕ) → announces cut at y ≡ announced cut s at) → x ≡ y
header_one s at {x} {y} e f = sym (header_back at x) ∙ (ap₂ as_header (e 0 ∙ sym (f 0)) (e 1 ∙ sym (f 1)) ∙ header_back at y)

-- ---- Boxes

box_child : Box → Child
box_child b = record { kind = b.kind; from = b.body.from; to = b.body.to }

pub as_child : Outcome Box → Result Child Refusal
as_child (fine b) = Ok (box_child b)
as_child (refused n) = Err (as_refusal n)

pub child_back : (at : ℕ) (x : Result Child Refusal) → as_child (child at x) ≡ x
unfolding as_child box_child
child_back at (Ok c) = refl
child_back at (Err e) = ap Err (refusal_back e)

pub child_one : (s : List ℕ) (h : Result Header Unread) {x y : Result Child Refusal}
    → ((at : ℕ) → child at x ≡ standing (whole 3 (length s)) (announces 3 at h))
    → ((at : ℕ) → child at y ≡ standing (whole 3 (length s)) (announces 3 at h)) → x ≡ y
child_one s h e f = one (child 0) as_child (child_back 0) (e 0) (f 0)

box_file : Box → Header
box_file b = record { kind = b.kind; from = b.body.from; size = size_of b.body }

file_same : (at : ℕ) (h : Header) → box_file (box_of at h.kind h.from (h.from + h.size)) ≡ h
unfolding box_file
file_same at h = rw (size_back h.from h.size)

pub file_one : (s : List ℕ) (at : ℕ) {x y : Result Header Refusal} → file_box at x ≡ file_box_at s at → file_box at y ≡ file_box_at s at → x ≡ y
file_one s at e f = refusal_result_one _ box_file (file_same at) e f

-- ---- Fields, of each of the functions that give a number

pub field_one : {o : Outcome ℕ} {x y : Result ℕ Refusal} → field_of x ≡ o → field_of y ≡ o → x ≡ y
field_one e f = refusal_result_one (λ v. v) (λ v. v) (λ v. refl) e f
