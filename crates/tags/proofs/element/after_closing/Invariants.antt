use Rattle.std.proofs.Common.{length}
use Rattle.tags.proofs.ElementWalk.{Progress}
use Rattle.tags.proofs.element.after_closing.Given as goal

abbrev pub invariant-loop-depth : goal.invariant-loop-depth
invariant-loop-depth l = Progress l.octets l.depth l.rest

abbrev pub decreases-loop-depth : goal.decreases-loop-depth
decreases-loop-depth l = length l.rest
