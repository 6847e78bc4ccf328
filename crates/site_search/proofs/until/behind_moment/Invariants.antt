use Rattle.std.proofs.Common.{◌≡◌, length}
use Rattle.site_search.specs.Words.{behind_moment}
use Rattle.site_search.proofs.until.behind_moment.Given as goal

-- what is left has the same behind its first blank
abbrev pub invariant-loop-left : goal.invariant-loop-left
invariant-loop-left l = behind_moment l.left ≡ behind_moment l.line

abbrev pub decreases-loop-left : goal.decreases-loop-left
decreases-loop-left l = length l.left
