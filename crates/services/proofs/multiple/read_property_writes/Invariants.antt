use Rattle.services.proofs.MultipleLaws.{left}
use Rattle.services.proofs.WriteLaws.{Progress}
use Rattle.services.proofs.multiple.read_property_writes.Given as goal

abbrev pub invariant-loop-next : goal.invariant-loop-next
invariant-loop-next g l = Progress l.fn.reader l.writes l.next l.reader

abbrev pub decreases-loop-next : goal.decreases-loop-next
decreases-loop-next g l = left l.next l.reader
