use Rattle.std.proofs.Common.{length}
use Rattle.site_faults.proofs.managers.tell_many_beyond.Given as goal

abbrev pub decreases-loop-left : goal.decreases-loop-left
decreases-loop-left g l = length l.left
