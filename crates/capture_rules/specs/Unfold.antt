-- For proofs that compute: `unfolding request` opens every definition of request six, and those of document 01 that it is made of.
use Rattle.rules.specs.Doc.Lists.{any, only, first_of}
use Rattle.rules.specs.Doc.Bytes.{number_at}
use Rattle.rules.specs.Doc.Endian.{place_in, number_of, number_in}
use Rattle.rules.specs.Doc.Text.{digit, decimal_to, decimal}
use Rattle.capture_rules.specs.Doc.Header.{order_of, header}
use Rattle.capture_rules.specs.Doc.Directory.{entry_at, entries, directory, first_with, find, value_of}
use Rattle.capture_rules.specs.Doc.Time.{pattern, fits, alike, decimal_at, time_in, leap, days_in, is_date, is_clock, time}
use Rattle.capture_rules.specs.Doc.Fraction.{signed32, gcd_in, lowest}
use Rattle.capture_rules.specs.Doc.Capture.{exif_at, date_in, fraction_in, entry_bias, if_there, bias_in, in_order, capture_in, capture_from, capture, of_answer, photo}
use Rattle.capture_rules.specs.Doc.Line.{two, time_text, sign_text, bias_text, line_text}

unfoldable pub request : Unit {0}
unfolding any only first_of number_at place_in number_of number_in digit decimal_to decimal order_of header entry_at entries directory first_with find value_of
    pattern fits alike decimal_at time_in leap days_in is_date is_clock time signed32 gcd_in lowest
    exif_at date_in fraction_in entry_bias if_there bias_in in_order capture_in capture_from capture of_answer photo two time_text sign_text bias_text line_text
request = tt
