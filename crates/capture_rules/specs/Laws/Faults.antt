-- A block is refused with a number from 34 to 39 only: so it can be told whether extraction refused an image or its block was refused.
use Rattle.std.specs.Prelude.{ℕ, ◌+◌, ◌*◌, not, ◌&&◌, List, length, T, leb, eqb}
use Rattle.std.proofs.Math.Option.{Option, none, some}
use Rattle.rules.specs.Doc.Outcomes.{Outcome}
use Rattle.rules.specs.Doc.Bytes.{number_at}
use Rattle.rules.specs.Doc.Endian.{Endian, number_in}
use Rattle.rules.specs.Laws.Numbered.{Within, went, row, require_numbered, given_numbered}
use Rattle.capture_rules.specs.Doc.Header.{order_of, header}
use Rattle.capture_rules.specs.Doc.Directory.{ASCII, LONG, SRATIONAL, exif_pointer, date_time_original, exposure_bias_value, Entry, Directory, directory, find, holds, value_of}
use Rattle.capture_rules.specs.Doc.Time.{pattern, alike, time_in, is_date, is_clock, time}
use Rattle.capture_rules.specs.Doc.Capture.{exif_at, date_in, fraction_in, entry_bias, if_there, bias_in, in_order, capture_in, capture_from, capture}

abbrev pub InBlock : ℕ → Type 0
InBlock n = T (leb 34 n && leb n 39)

abbrev pub Numbered : {A : Type 0} → Outcome A → Type 0
Numbered = Within InBlock

header_numbered : (b : List ℕ) → Numbered (header b)
unfolding header
header_numbered b =
    row _ _ (require_numbered (leb 8 (length b)) 34 tt)
    (λ u. row _ _ (given_numbered (order_of (number_at b 0 2)) 34 tt) (λ e. row _ _ (require_numbered (eqb (number_in e b 2 2) 42) 34 tt) (λ v. went)))

directory_numbered : (e : Endian) (b : List ℕ) (at : ℕ) → Numbered (directory e b at)
unfolding directory
directory_numbered e b at =
    row _ _ (require_numbered (leb (at + 2) (length b)) 35 tt)
    (λ u. row _ _ (require_numbered (leb (at + 2 + 12 * number_in e b at 2) (length b)) 35 tt) (λ v. went))

pointer_numbered : (e : Endian) (b : List ℕ) (d : Directory) → Numbered (exif_at e b d)
unfolding exif_at
pointer_numbered e b d =
    row _ _ (given_numbered (find e b d exif_pointer) 36 tt) (λ x. row _ _ (require_numbered (holds LONG 1 x) 36 tt) (λ u. went))

value_numbered : (b : List ℕ) (n : ℕ) (x : Entry) → Numbered (value_of b n x)
unfolding value_of
value_numbered b n x = row _ _ (require_numbered (leb (x.place + n) (length b)) 35 tt) (λ u. went)

time_numbered : (s : List ℕ) → Numbered (time s)
unfolding time
time_numbered s =
    row _ _ (require_numbered (alike pattern s) 37 tt) (λ u. row _ _ (require_numbered (is_date (time_in s) && is_clock (time_in s)) 37 tt) (λ v. went))

date_numbered : (e : Endian) (b : List ℕ) (d : Directory) → Numbered (date_in e b d)
unfolding date_in
date_numbered e b d =
    row _ _ (given_numbered (find e b d date_time_original) 37 tt)
    (λ x. row _ _ (require_numbered (holds ASCII 20 x) 37 tt) (λ u. row _ _ (value_numbered b 20 x) time_numbered))

fraction_numbered : (e : Endian) (v : List ℕ) → Numbered (fraction_in e v)
unfolding fraction_in
fraction_numbered e v = row _ _ (require_numbered (not (eqb (number_in e v 4 4) 0)) 39 tt) (λ u. went)

entry_numbered : (e : Endian) (b : List ℕ) (x : Entry) → Numbered (entry_bias e b x)
unfolding entry_bias
entry_numbered e b x = row _ _ (require_numbered (holds SRATIONAL 1 x) 38 tt) (λ u. row _ _ (value_numbered b 8 x) (fraction_numbered e))

there_numbered : {A B : Type 0} (f : A → Outcome B) → ((x : A) → Numbered (f x)) → (o : Option A) → Numbered (if_there f o)
unfolding if_there
there_numbered f p none = went
there_numbered f p (some x) = row _ _ (p x) (λ y. went)

bias_numbered : (e : Endian) (b : List ℕ) (d : Directory) → Numbered (bias_in e b d)
unfolding bias_in
bias_numbered e b d = there_numbered (entry_bias e b) (entry_numbered e b) (find e b d exposure_bias_value)

from_numbered : (e : Endian) (b : List ℕ) (d : Directory) → Numbered (capture_from e b d)
unfolding capture_from capture_in in_order
from_numbered e b d =
    row _ _ (pointer_numbered e b d)
    (λ at. row _ _ (directory_numbered e b at) (λ x. row _ _ (date_numbered e b x) (λ t. row _ _ (bias_numbered e b x) (λ f. went))))

pub capture_numbered : (b : List ℕ) → Numbered (capture b)
unfolding capture
capture_numbered b = row _ _ (header_numbered b) (λ h. row _ _ (directory_numbered h.order b h.first) (from_numbered h.order b))
