-- The body of `meta` is a part of the image, and what it gives is the answer.
use Rattle.isobmff.specs.Whole.{image_opened}
use Rattle.isobmff.proofs.get_exif_attr.Goals as goal

pub returns : goal.returns
returns c = image_opened _ _ (rw c.in_ok-meta.was at c.parse.ensures) c.from_meta.ensures
