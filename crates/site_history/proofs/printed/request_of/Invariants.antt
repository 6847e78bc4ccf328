use Rattle.std.proofs.Common.{◌≡◌, length}
use Rattle.site_history.specs.Printed.{request_of}
use Rattle.site_history.proofs.printed.request_of.Given as goal

-- what was looked at issues nothing under the number
abbrev pub invariant-loop-left : goal.invariant-loop-left
invariant-loop-left g l = request_of l.number l.history ≡ request_of l.number l.left

abbrev pub decreases-loop-left : goal.decreases-loop-left
decreases-loop-left g l = length l.left
