use Rattle.std.proofs.Common.{◌≡◌, length}
use Rattle.site_storm.specs.Waits.{moment_of}
use Rattle.site_storm.proofs.waits.moment_of.Given as goal

-- it is the moment among the rest
abbrev pub invariant-loop-left : goal.invariant-loop-left
invariant-loop-left l = moment_of l.number l.left ≡ moment_of l.number l.issues

abbrev pub decreases-loop-left : goal.decreases-loop-left
decreases-loop-left l = length l.left
