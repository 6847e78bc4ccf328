use Rattle.std.proofs.Common.{take}
use Rattle.simulator.specs.Runs.{Runs}
use Rattle.simulator.proofs.simulation.World.run.Given as goal

-- so far
abbrev pub invariant-loop-event : goal.invariant-loop-event
invariant-loop-event g l = Runs (take l.event-index l.initial.events) l.initial.self l.self
