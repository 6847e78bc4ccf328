use Rattle.simulator.specs.Flows.{left_of}
use Rattle.bench.proofs.worlds.flow.Given as goal

-- each event that a flow gives leaves less of it
abbrev pub decreases-loop-event : goal.decreases-loop-event
decreases-loop-event g l = left_of l.flow
