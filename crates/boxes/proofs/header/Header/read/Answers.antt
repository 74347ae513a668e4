-- The arms of the sizes 0, 1 and from 8 on meet at the last return; each is a case of the decision over the size, and its law in Laws/Decision.
use Rattle.rules.specs.Laws.Decision as by
use Rattle.boxes.proofs.header.Header.read.Goals as goal
use Rattle.boxes.proofs.header.Header.read.Goals.{in-0, in-1+else-left-lt-LONG+else-size, in_default}

pub returns : goal.returns
returns c =
    rw c.of.ensures
    (elim c.match-loadu32.branch [
      | in-0 w ↦ rw (w.head-is, w.size-is) (search by.to_end)
      | in-1+else-left-lt-LONG+else-size w ↦ rw (w.head-is, w.size-is) (search by.large_exact)
      | in_default w ↦ rw (w.head-is, w.size-is, w.from-size.ensures) (search by.exact)
    ])
