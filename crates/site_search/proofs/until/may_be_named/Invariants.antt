use Rattle.std.proofs.Common.{length}
use Rattle.site_search.proofs.until.may_be_named.Given as goal

abbrev pub decreases-loop-left : goal.decreases-loop-left
decreases-loop-left l = length l.left
