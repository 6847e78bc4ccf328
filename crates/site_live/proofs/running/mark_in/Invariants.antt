use Rattle.std.proofs.Common.{◌≡◌, length}
use Rattle.site_history.specs.Printed.{or_else}
use Rattle.site_live.proofs.running.mark_in.Given as goal
use Rattle.site_live.specs.Steps.{mark_in}

abbrev pub decreases-loop-left : goal.decreases-loop-left
decreases-loop-left g l = length l.left

-- the mark of what is left, or else the one before it
abbrev pub invariant-loop-left : goal.invariant-loop-left
invariant-loop-left g l = or_else (mark_in l.left) l.mark ≡ mark_in l.steps
