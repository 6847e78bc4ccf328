use Rattle.std.proofs.Common.{length}
use Rattle.services.proofs.NoReply.{ResultsBefore}
use Rattle.services.proofs.acknowledgement.read_result_list.Given as goal

abbrev pub invariant-loop-results : goal.invariant-loop-results
invariant-loop-results g l = ResultsBefore l.initial.reader l.results l.reader

abbrev pub decreases-loop-results : goal.decreases-loop-results
decreases-loop-results g l = length l.reader
