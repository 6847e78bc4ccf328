use Rattle.std.proofs.Common.{length}
use Rattle.judge.proofs.ear.Ear.takes_only.Given as goal

abbrev pub decreases-loop-left : goal.decreases-loop-left
decreases-loop-left l = length l.left
