use Rattle.std.proofs.Common.{◌+◌, ◌-◌, length}
use Rattle.world_log.proofs.last_numbers.make_row.Given as goal
use Rattle.world_log.specs.Issues.{IsSameOf}

abbrev pub invariant-loop-alloc : goal.invariant-loop-alloc
invariant-loop-alloc g l = IsSameOf l.fn.last.items l.last.items

abbrev pub decreases-loop-alloc : goal.decreases-loop-alloc
decreases-loop-alloc g l = l.invoke_id + 1 - length l.last.items
