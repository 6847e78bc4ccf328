use Rattle.std.proofs.Common.{length}
use Rattle.site_faults.proofs.roles.tell_each_role.Given as goal

abbrev pub decreases-loop-left : goal.decreases-loop-left
decreases-loop-left g l = length l.left
