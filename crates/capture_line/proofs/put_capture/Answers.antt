-- Texts written one behind the other are one text (`wrote_then`), here five, the first three of known lengths. The line is short (`line_length`), so
-- the place behind each can be told.
use Rattle.std.specs.Prelude.{ℕ, ◌+◌, ◌^◌, ◌<◌, List, ◌++◌, length}
use Rattle.std.proofs.Common.{arith}
use Rattle.rules.specs.Doc.Text.{ascii}
use Rattle.rules.specs.Doc.Outcomes.{fine}
use Rattle.rules.specs.Doc.Listing.{newline}
use Rattle.capture_rules.specs.Doc.Line.{time_text, bias_text, line_text}
use Rattle.capture_rules.specs.Laws.LineText.{line_length}
use Rattle.dates.specs.Told.{time_of}
use Rattle.capture.specs.declared.Capture.{Capture}
use Rattle.capture.specs.Told.{bias_of, capture_of}
use Rattle.capture_line.specs.Printable.{PrintableLine}
use Rattle.text.specs.Wrote.{wrote_then, room_first, room_then}
use Rattle.capture_line.proofs.put_capture.Goals as goal

-- the first three texts, the fourth, and that the place behind the line can be told
abbrev date : Capture → List ℕ
date capture = ascii "answer=0 date=" ++ time_text (time_of capture.time) ++ ascii " bias="

abbrev bias : Capture → List ℕ
bias capture = bias_text (bias_of capture.bias)

room : (capture : Capture) → PrintableLine (fine (capture_of capture)) → 0 + length (date capture ++ bias capture ++ newline) < 2 ^ 64
unfolding line_text
room capture printable = omega (arith, line_length (capture_of capture) printable.1)

pub put_bias-at-requires : goal.put_bias-at-requires
put_bias-at-requires c =
    let capture = c.args.capture in
    let dated = wrote_then (wrote_then c.put-at.ensures c.put_time-at.ensures) c.put-at-2.ensures in
    room_then dated (bias capture) (room_first 0 (date capture ++ bias capture) newline (room capture c.requires))

pub put-requires : goal.put-requires
put-requires c =
    let dated = wrote_then (wrote_then c.put-at.ensures c.put_time-at.ensures) c.put-at-2.ensures in
    room_then (wrote_then dated c.put_bias-at.ensures) newline (room c.args.capture c.requires)

pub returns : goal.returns
unfolding line_text
returns c =
    let dated = wrote_then (wrote_then c.put-at.ensures c.put_time-at.ensures) c.put-at-2.ensures in
    wrote_then (wrote_then dated c.put_bias-at.ensures) c.put.ensures
