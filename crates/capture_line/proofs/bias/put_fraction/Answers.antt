-- Texts written one behind the other are one text (`wrote_then`), here four. The numerator is the one that the machine reads back.
use Rattle.std.proofs.Common.{◌≡◌, rules}
use mir.Syntax.{w64}
use mir.Val.{to_z, of_z}
use Rattle.capture_rules.specs.Doc.Line.{bias_text}
use Rattle.text.specs.Wrote.{wrote_then}
use Rattle.capture_line.proofs.bias.put_fraction.Goals as goal

pub returns : goal.returns
unfolding bias_text
returns c =
    let f = c.args.fraction in
    let back : to_z w64 (of_z w64 f.num) ≡ f.num = search rules in
    let top = wrote_then (rw back at c.put_sign-at.ensures) (rw (c.unsigned_abs.ensures.value, back) at c.put_decimal-at.ensures) in
    wrote_then (wrote_then top c.put-at.ensures) c.put_decimal.ensures
