use Rattle.std.proofs.Common.{length}
use Rattle.captures.proofs.link.behind_type.Given as goal

abbrev pub decreases-loop-left : goal.decreases-loop-left
decreases-loop-left l = length l.left
