use Rattle.std.proofs.Common.{length}
use Rattle.site_faults.proofs.devices.tell_faulty.Given as goal

abbrev pub decreases-loop-left : goal.decreases-loop-left
decreases-loop-left g l = length l.left
