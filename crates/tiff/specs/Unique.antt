-- No two answers say the same, so each contract of this crate determines its function's answer; of the bytes of a value, which they are.
use Rattle.std.specs.Prelude.{◌≡◌, refl, Bool, List, [], ◌∷◌, ℕ, ◌+◌, ◌-◌, ◌*◌, ◌≤◌, length, get_or, leb, Result, Ok, Err, Option, IfOk}
use Rattle.std.proofs.Common.{sym, ap, subst, ◌∙◌}
use Rattle.std.proofs.Math.Bridge.{le_prop}
use denote.Bor.{Bor}
use Rattle.rules.specs.Doc.Outcomes.{Outcome, fine, refused}
use Rattle.rules.specs.Results.{result_one, as_option, option_back}
use Rattle.rules.specs.Laws.Back.{one}
use Rattle.endian.specs.Told.{endian_of}
use Rattle.endian.specs.Unique.{as_endian, endian_back}
use Rattle.capture_rules.specs.Doc.Header as doc-header
use Rattle.capture_rules.specs.Doc.Directory as doc-directory
use Rattle.tiff.specs.Told.{number, header_told, header_of, directory_told, directory_of, entry_of, found_of, bytes_of}
use Rattle.tiff.specs.declared.fault.Fault.{Fault}
use Rattle.tiff.specs.declared.fault.Fault.TheVariants as x
use Rattle.tiff.specs.declared.header.Header.{Header}
use Rattle.tiff.specs.declared.directory.Directory.{Directory}
use Rattle.tiff.specs.declared.entry.Entry.{Entry}
use Rattle.endian.specs.declared.Endian.{Endian}

-- ---- Faults

-- from number 34 on
faults : List Fault
faults = x.Header ∷ x.Outside ∷ x.NoExifPointer ∷ x.NoDate ∷ x.BiasType ∷ x.ZeroDenominator ∷ []

pub as_fault : ℕ → Fault
as_fault n = get_or faults (n - 34) x.Header

pub fault_back : (e : Fault) → as_fault (number e) ≡ e
unfolding as_fault faults
fault_back x.Header = refl
fault_back x.Outside = refl
fault_back x.NoExifPointer = refl
fault_back x.NoDate = refl
fault_back x.BiasType = refl
fault_back x.ZeroDenominator = refl

-- of `Fault::number`
pub fault_number_one : (e : Fault) {m n : ℕ} → m ≡ number e → n ≡ number e → m ≡ n
fault_number_one e p q = p ∙ sym q

-- ---- Headers

pub as_header : doc-header.Header → Header
as_header h = record { order = as_endian h.order; first = h.first }

pub header_back : (h : Header) → as_header (header_told h) ≡ h
unfolding as_header
header_back h = rw (endian_back h.order)

-- of `read_header`
pub header_one : (b : List ℕ) {p q : Result Header Fault} → header_of p ≡ doc-header.header b → header_of q ≡ doc-header.header b → p ≡ q
header_one b e f = result_one number as_fault fault_back header_told as_header header_back e f

-- ---- Directories

-- what `read_directory` promises of its answer
abbrev pub Reads : Endian → Bor (List ℕ) → ℕ → Result Directory Fault → Type 0
Reads order block at r = (directory_of r ≡ doc-directory.directory (endian_of order) block.now at) × IfOk r (λ d. (d.order ≡ order) × (d.block ≡ block))

abbrev fields : Directory → Endian × Bor (List ℕ) × ℕ × ℕ
fields d = (d.order, d.block, d.from, d.count)

-- that the entries lie inside is no more than a fact of the other fields
same_directory : (d e : Directory) → fields d ≡ fields e → d ≡ e
same_directory d e s =
    let P : Endian × Bor (List ℕ) × ℕ × ℕ → Type 0 = λ t. (i : t.2 + 12 * t.3 ≤ length t.1.now) → d ≡ record { order = t.0; block = t.1; from = t.2; count = t.3; inside = i } in
    let here : P (fields d) = λ i. ap (λ j. record { order = d.order; block = d.block; from = d.from; count = d.count; inside = j }) (le_prop d.inside i) in
    subst P s here e.inside

-- of `read_directory`
pub directory_one : (order : Endian) (block : Bor (List ℕ)) (at : ℕ) {p q : Result Directory Fault} → Reads order block at p → Reads order block at q → p ≡ q
directory_one order block at {p = Ok d} {q = Ok e} m n =
    let told : fine (directory_told d) ≡ fine (directory_told e) = m.0 ∙ sym n.0 in
    let same : directory_told d ≡ directory_told e = cc in
    let from : d.from ≡ e.from = ap (λ (t : doc-directory.Directory). t.from) same in
    let count : d.count ≡ e.count = ap (λ (t : doc-directory.Directory). t.count) same in
    ap Ok (same_directory d e cc)
directory_one order block at {p = Ok d} {q = Err e} m n =
    let told : fine (directory_told d) ≡ refused (number e) = m.0 ∙ sym n.0 in
    cc
directory_one order block at {p = Err d} {q = Ok e} m n =
    let told : refused (number d) ≡ fine (directory_told e) = m.0 ∙ sym n.0 in
    cc
directory_one order block at {p = Err d} {q = Err e} m n =
    let told : ◌≡◌ {A = Outcome doc-directory.Directory} (refused (number d)) (refused (number e)) = m.0 ∙ sym n.0 in
    let same : number d ≡ number e = cc in
    ap Err (one number as_fault fault_back same refl)

-- of `inside`
pub inside_one : (b : List ℕ) (at n : ℕ) {p q : Bool} → p ≡ leb (at + n) (length b) → q ≡ leb (at + n) (length b) → p ≡ q
inside_one b at n e f = e ∙ sym f

-- ---- Entries

pub as_entry : doc-directory.Entry → Entry
as_entry x = record { kind = x.kind; count = x.count; place = x.place }

pub entry_back : (tag : ℕ) (x : Entry) → as_entry (entry_of tag x) ≡ x
unfolding as_entry
entry_back tag x = refl

-- of `find`
pub find_one : (order : Endian) (b : List ℕ) (place : doc-directory.Directory) (tag : ℕ) {p q : Option Entry}
    → found_of tag p ≡ doc-directory.find (endian_of order) b place tag → found_of tag q ≡ doc-directory.find (endian_of order) b place tag → p ≡ q
find_one order b place tag e f = one (found_of tag) (as_option (entry_of tag) as_entry (entry_back tag)) (option_back (entry_of tag) as_entry (entry_back tag)) e f

-- of `Entry::holds`
pub holds_one : (wanted many : ℕ) (x : doc-directory.Entry) {p q : Bool} → p ≡ doc-directory.holds wanted many x → q ≡ doc-directory.holds wanted many x → p ≡ q
holds_one wanted many x e f = e ∙ sym f

-- of `Entry::value`: the bytes. Where they stand is left open.
pub value_one : (b : List ℕ) (n : ℕ) (x : doc-directory.Entry) (p q : Result (Bor (List ℕ)) Fault)
    → bytes_of p ≡ doc-directory.value_of b n x → bytes_of q ≡ doc-directory.value_of b n x → bytes_of p ≡ bytes_of q
value_one b n x p q e f = e ∙ sym f
