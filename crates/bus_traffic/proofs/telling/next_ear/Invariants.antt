use Rattle.std.proofs.Common.{◌≤◌, ◌-◌, length}
use Rattle.bus_traffic.specs.Telling.{NoneBetween}
use Rattle.bus_traffic.proofs.telling.next_ear.Given as goal

-- no frame waits at the ears that were looked at
abbrev pub invariant-loop-place : goal.invariant-loop-place
invariant-loop-place g l = (l.from ≤ l.place) × NoneBetween l.now l.ears l.recent l.from l.place

abbrev pub decreases-loop-place : goal.decreases-loop-place
decreases-loop-place g l = length l.ears - l.place
