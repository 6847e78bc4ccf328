use Rattle.std.specs.List.{AllByRecursion}
use Rattle.primitives.specs.Sound.{IsSoundReference}
use Rattle.services.proofs.MultipleLaws.{Reached, left}
use Rattle.services.proofs.multiple.read_references.Given as goal

abbrev pub invariant-loop-next : goal.invariant-loop-next
invariant-loop-next g l = Reached l.fn.reader l.references l.next l.reader × AllByRecursion IsSoundReference l.references

abbrev pub decreases-loop-next : goal.decreases-loop-next
decreases-loop-next g l = left l.next l.reader
