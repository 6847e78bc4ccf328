use Rattle.std.proofs.Common.{◌-◌, length}
use Rattle.bus_traffic.specs.Settling.{AreSettled}
use Rattle.bus_traffic.proofs.settling.count_done.Given as goal

-- so many are settled
abbrev pub invariant-loop-count : goal.invariant-loop-count
invariant-loop-count g l = AreSettled l.ears l.recent l.count

abbrev pub decreases-loop-count : goal.decreases-loop-count
decreases-loop-count g l = length l.recent - l.count
