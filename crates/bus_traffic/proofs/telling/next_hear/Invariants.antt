use Rattle.std.proofs.Common.{take}
use Rattle.bus_traffic.proofs.TellingLaws.{IsTold}
use Rattle.bus_traffic.proofs.telling.next_hear.Given as goal

-- it is the first of the buses that were looked at
abbrev pub invariant-loop-bus : goal.invariant-loop-bus
invariant-loop-bus g l = IsTold l.now l.from l.before (take l.bus-index l.buses) l.next
