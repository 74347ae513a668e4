-- What is not refused ends inside the bytes (`EndsIn`).
use mathlib.Core.Path.{ap}
use Rattle.join.specs.Told.{place_of}
use Rattle.join.proofs.place.part_at.Goals as goal

pub slice_bounds-result-end : goal.slice_bounds-result-end
slice_bounds-result-end c = c.requires _ (ap place_of c.in-Ok.is)
