use Rattle.std.proofs.Common.{length}
use Rattle.network_findings.proofs.routers.Routers.announce.Given as goal

abbrev pub decreases-loop-left : goal.decreases-loop-left
decreases-loop-left g l = length l.left
