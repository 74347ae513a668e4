-- What the answers say: request six's number, or the values, of each case.
use Rattle.std.specs.Prelude.{ℕ, List, Result, Option}
use Rattle.std.proofs.Math.Option as math
use denote.Bor.{Bor}
use Rattle.rules.specs.Doc.Outcomes.{Outcome}
use Rattle.rules.specs.Results.{outcome, perhaps}
use Rattle.rules.specs.Doc.Endian as rules
use Rattle.endian.specs.Told.{endian_of}
use Rattle.capture_rules.specs.Doc.Header as doc-header
use Rattle.capture_rules.specs.Doc.Directory as doc-directory
use Rattle.tiff.specs.declared.fault.Fault.{Fault}
use Rattle.tiff.specs.declared.fault.Fault.TheVariants as x
use Rattle.tiff.specs.declared.header.Header.{Header}
use Rattle.tiff.specs.declared.directory.Directory.{Directory}
use Rattle.tiff.specs.declared.entry.Entry.{Entry}

-- the numbers that request six adds to the table "Numbers given back"
abbrev pub number : Fault → ℕ
number x.Header = 34
number x.Outside = 35
number x.NoExifPointer = 36
number x.NoDate = 37
number x.BiasType = 38
number x.ZeroDenominator = 39

abbrev pub header_told : Header → doc-header.Header
header_told h = record { order = endian_of h.order; first = h.first }

abbrev pub header_of : Result Header Fault → Outcome doc-header.Header
header_of = outcome number header_told

abbrev pub directory_told : Directory → doc-directory.Directory
directory_told d = record { from = d.from; count = d.count }

abbrev pub directory_of : Result Directory Fault → Outcome doc-directory.Directory
directory_of = outcome number directory_told

-- what a definition says by a directory: by the order of its bytes, its block, and where its entries are
abbrev pub by_directory : {A : Type 0} → (rules.Endian → List ℕ → doc-directory.Directory → A) → Directory → A
by_directory say d = say (endian_of d.order) d.block.now (directory_told d)

-- an entry, with its tag: an answer doesn't repeat that
abbrev pub entry_of : ℕ → Entry → doc-directory.Entry
entry_of tag x = record { tag = tag; kind = x.kind; count = x.count; place = x.place }

-- of what is found for a tag
abbrev pub found_of : ℕ → Option Entry → math.Option doc-directory.Entry
found_of tag = perhaps (entry_of tag)

-- of the bytes that an entry points to
abbrev pub bytes_of : Result (Bor (List ℕ)) Fault → Outcome (List ℕ)
bytes_of = outcome number (λ v. v.now)
