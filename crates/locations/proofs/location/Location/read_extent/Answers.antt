-- Extent k is there whole (`whole`), with widths that need no test.
use Rattle.locations.specs.Located.{whole}
use Rattle.locations.proofs.location.Location.read_extent.Goals as goal

pub extent_here-requires : goal.extent_here-requires
extent_here-requires c =
    let i = whole c.args.self.now c.args.k c.requires.k_bound in
    rw c.extent_size.ensures.0 (i.widths.0, i.widths.1, i.inside)
