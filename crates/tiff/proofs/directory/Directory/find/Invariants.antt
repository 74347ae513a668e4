-- An entry that was passed has another tag: so the entries that are left decide the answer as all of them do.
use Rattle.std.proofs.Common.{◌≡◌, ◌+◌, ◌-◌, ◌*◌}
use Rattle.endian.specs.Told.{endian_of}
use Rattle.tiff.specs.Entries.{find_from}
use Rattle.tiff.proofs.directory.Directory.find.Given as goal

abbrev pub invariant-loop-i : goal.invariant-loop-i
invariant-loop-i l =
    let d = l.self in
    find_from (endian_of d.order) d.block.now l.tag (d.from + 12 * l.i) (d.count - l.i) ≡ find_from (endian_of d.order) d.block.now l.tag d.from d.count
