use Rattle.std.proofs.Common.{length}
use Rattle.services.proofs.MultipleLaws.{ReadBefore}
use Rattle.services.proofs.multiple.read_many.Given as goal

abbrev pub invariant-loop-alloc : goal.invariant-loop-alloc
invariant-loop-alloc g l = ReadBefore l.fn.reader l.asked l.reader

abbrev pub decreases-loop-alloc : goal.decreases-loop-alloc
decreases-loop-alloc g l = length l.reader
