use Rattle.std.proofs.Common.{Bool}
use Rattle.std.specs.List.{AllByRecursion}
use Rattle.script.specs.Steps.{IsSoundStep}
use Rattle.site_history.specs.simulator.world.World.{WorldState}
use Rattle.site_run.specs.Running.{Known, TakesSteps}
use Rattle.site_run.proofs.running.take_all.Given as goal

-- what the rest leads to, all lead to
abbrev pub invariant-loop-step : goal.invariant-loop-step
invariant-loop-step g l =
    AllByRecursion IsSoundStep l.step-iterator.rest.items
    × ((now : Bool) (v : WorldState _) (new : Known) →
    TakesSteps l.telling l.lines l.step-iterator.rest.items l.course.verdicts now l.world v
    (g.W.Write.contents l.out) new →
    TakesSteps l.telling l.fn.lines l.fn.steps l.fn.course.verdicts now l.fn.world v
    (g.W.Write.contents l.fn.out) new)
