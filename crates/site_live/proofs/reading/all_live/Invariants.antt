use Rattle.std.proofs.Common.{List, ◌++◌}
use Rattle.std.specs.List.{AllByRecursion}
use Rattle.script.specs.Steps.{IsSoundStep}
use Rattle.site_live.specs.Steps.{AreLive}
use Rattle.script.specs.declared.step.Step.{Step}
use Rattle.site_live.proofs.reading.all_live.Given as goal

-- all so far are sound, and what is left is; what it asks for, behind these, all ask for
abbrev pub invariant-loop-step : goal.invariant-loop-step
invariant-loop-step g l =
    AllByRecursion IsSoundStep l.step-iterator.rest.items
    × AllByRecursion IsSoundStep l.steps
    × ((more : List (Step _)) → AreLive l.step-iterator.rest.items more → AreLive l.fn.said (l.steps ++ more))
