use Rattle.std.proofs.Common.{length}
use Rattle.diagnosis.proofs.stations.Stations.announce.Given as goal

abbrev pub decreases-loop-left : goal.decreases-loop-left
decreases-loop-left g l = length l.left
