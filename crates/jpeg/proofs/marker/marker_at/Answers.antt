use mathlib.Core.Path.{refl}
use Rattle.jpeg.specs.Markers.{marker_none, marker_here, marker_later}
use Rattle.jpeg.proofs.marker.marker_at.Goals as goal

pub loop-at-init : goal.loop-at-init
loop-at-init c = refl

pub returns-then-image-at : goal.returns-then-image-at
returns-then-image-at c = search marker_here

pub loop-at-preserved : goal.loop-at-preserved
loop-at-preserved c = search marker_later

pub returns : goal.returns
returns c = search marker_none
