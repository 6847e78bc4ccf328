use Rattle.due_times.specs.Times.{IsFloor}
use Rattle.due_times.proofs.times.floor_of.Given as goal

-- it is the floor of those that were looked at
abbrev pub invariant-loop-rest : goal.invariant-loop-rest
invariant-loop-rest l = IsFloor l.floor l.first l.rest l.moments
