-- The block that was found is a part of the image, and is handed out (Whole).
use Rattle.jpeg.specs.Whole.{jpeg_found}
use Rattle.jpeg.proofs.get_exif_attr.Goals as goal

pub returns : goal.returns
returns c = jpeg_found _ _ c.is_jpeg.ensures c.if-not-is_jpeg.false c.in_ok-block.ensures c.hand_out.ensures
