use Rattle.std.proofs.Common.{length}
use Rattle.services.proofs.NoReply.{ManyBefore}
use Rattle.services.proofs.acknowledgement.read_many_ack.Given as goal

abbrev pub invariant-loop-alloc : goal.invariant-loop-alloc
invariant-loop-alloc g l = ManyBefore l.fn.reader l.all l.reader

abbrev pub decreases-loop-alloc : goal.decreases-loop-alloc
decreases-loop-alloc g l = length l.reader
