use Rattle.std.specs.List.{AllByRecursion}
use Rattle.site_run.specs.script.Steps.{IsSoundStep}
use Rattle.site_steps.proofs.watching.take_steps.Given as goal

abbrev pub invariant-loop-step : goal.invariant-loop-step
invariant-loop-step g l = AllByRecursion IsSoundStep l.step-iterator.rest.items
