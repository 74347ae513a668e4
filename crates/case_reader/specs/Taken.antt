-- What a case takes of the input: a head of nine bytes, which has the kind and the two lengths, and then the image.
use Rattle.std.specs.Prelude.{◌≡◌, ℕ, List, ◌++◌, length, take, Option, Some, None}
use Rattle.std.specs.Io.KnownBytes.{Consumes}
use Rattle.rules.specs.Doc.Bytes.{byte_at, number_at}
use Rattle.case_reader.specs.declared.Case.{Case}

-- `before` and `after` are the bytes that the input has left.
abbrev pub Taken : Option (List ℕ) → Option (List ℕ) → List ℕ → Option Case → Type 0
Taken before after buffer (Some case) =
    (head : List ℕ) × (length head ≡ 9) × (case.kind ≡ byte_at head 0) × (case.image_len ≡ number_at head 1 4) × (case.out_len ≡ number_at head 5 4)
    × Consumes before after (head ++ take case.image_len buffer)
Taken before after buffer None = Unit
