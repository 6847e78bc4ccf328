use Rattle.std.proofs.Common.{◌≡◌, length}
use Rattle.history.specs.Lists.{first_of}
use Rattle.network_faults.specs.Issued.{latest_issue}
use Rattle.network_faults.proofs.issued.latest_issue.Given as goal

abbrev pub decreases-loop-left : goal.decreases-loop-left
decreases-loop-left g l = length l.left

-- the latest issue of what is left, or else the one before it
abbrev pub invariant-loop-left : goal.invariant-loop-left
invariant-loop-left g l = first_of (latest_issue l.left) l.latest ≡ latest_issue l.history
