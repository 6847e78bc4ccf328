use Rattle.std.proofs.Common.{◌≤◌, ◌-◌, length}
use Rattle.traffic.proofs.seeking.next_waiting.Given as goal

abbrev pub invariant-loop-number : goal.invariant-loop-number
invariant-loop-number g l = l.from ≤ l.number

abbrev pub decreases-loop-number : goal.decreases-loop-number
decreases-loop-number g l = length l.items - l.number
