-- The two digits are those of the definition (`hex_two`), one behind the other.
use Rattle.std.proofs.Common.{◌≡◌, ◌/◌, ◌%◌, arith}
use Rattle.output.specs.Copied.{copied_append}
use Rattle.answer_line.specs.Parts.{hex_two}
use Rattle.answer_line.proofs.put_pair.Goals as goal

pub returns : goal.returns
returns c =
    let b = c.args.b in
    let upper : b / 16 % 16 ≡ b / 16 = omega arith in
    rw (hex_two b, upper, ← c.from.ensures, ← c.from-2.ensures) (copied_append c.put_digit-at.ensures c.put_digit.ensures)
