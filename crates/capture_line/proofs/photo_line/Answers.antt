-- The line of what was read is written from the front on.
use Rattle.text.specs.Wrote.{from_front}
use Rattle.capture_line.proofs.photo_line.Goals as goal

pub returns-clause-out_after : goal.returns-clause-out_after
returns-clause-out_after c = (from_front (rw c.from_image.ensures.result_value at c.put_photo.ensures)).1
