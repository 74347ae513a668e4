-- What a refusal means where more than one thing is wrong: the first directory comes before the Exif directory, and in
-- that one the date before the bias.
use Rattle.std.specs.Prelude.{◌≡◌, ℕ, List}
use Rattle.rules.specs.Doc.Outcomes.{fine, refused}
use Rattle.rules.specs.Doc.Endian.{Endian}
use Rattle.capture_rules.specs.Doc.Header.{Header, header}
use Rattle.capture_rules.specs.Doc.Directory.{Directory, directory}
use Rattle.capture_rules.specs.Doc.Time.{Time}
use Rattle.capture_rules.specs.Doc.Capture.{date_in, bias_in, in_order, capture_in, capture}

-- A block whose first directory is refused is refused with that number, wherever the Exif directory may be.
pub first_directory_first : (b : List ℕ) {h : Header} {n : ℕ} → header b ≡ fine h → directory h.order b h.first ≡ refused n
    → capture b ≡ refused n
unfolding capture
first_directory_first b e f = rw (e, f)

-- A date that is refused decides, whatever the bias is.
pub date_first : (e : Endian) (b : List ℕ) (d : Directory) {n : ℕ} → date_in e b d ≡ refused n → capture_in e b d ≡ refused n
unfolding capture_in in_order
date_first e b d f = rw f

-- A bias that is refused decides where the date is right: the date is not handed out without it.
pub bias_last : (e : Endian) (b : List ℕ) (d : Directory) {t : Time} {n : ℕ} → date_in e b d ≡ fine t → bias_in e b d ≡ refused n
    → capture_in e b d ≡ refused n
unfolding capture_in in_order
bias_last e b d f g = rw (f, g)
