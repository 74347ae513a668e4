-- Both buffers have room for what is put there (`line_whole`), since an image is made of bytes, as every slice is.
use Rattle.std.proofs.Common.{arith}
use Rattle.intake_line.specs.Told.{line_whole}
use Rattle.intake_line.proofs.file_line.Goals as goal

pub returns : goal.returns
returns c =
    let a = c.args in
    let put = c.told_line.ensures in
    let line = line_whole a.image.now a.block.now c.type_inv.image (omega arith) (omega arith) put.copied in
    record { value = line.0; line_after = line.1; block_after = put.block_after }
