use Rattle.std.proofs.Common.{length}
use Rattle.services.proofs.WriteLaws.{WrittenBefore}
use Rattle.services.proofs.multiple.read_write_many.Given as goal

abbrev pub invariant-loop-alloc : goal.invariant-loop-alloc
invariant-loop-alloc g l = WrittenBefore l.fn.reader l.asked l.reader

abbrev pub decreases-loop-alloc : goal.decreases-loop-alloc
decreases-loop-alloc g l = length l.reader
