use Rattle.std.specs.List.{AllByRecursion}
use Rattle.simulator.specs.world.Step.{IsSoundEvent}
use Rattle.search.proofs.searching.put_events.Given as goal

abbrev pub invariant-loop-choice : goal.invariant-loop-choice
invariant-loop-choice g l = AllByRecursion IsSoundEvent l.events
