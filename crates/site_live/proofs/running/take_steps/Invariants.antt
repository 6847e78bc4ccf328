use Rattle.std.specs.List.{AllByRecursion}
use Rattle.site_history.specs.Printed.{Known}
use Rattle.site_live.specs.Running.{LiveState, Lives}
use Rattle.script.specs.Steps.{IsSoundStep}
use Rattle.site_live.specs.Steps.{asked_of}
use Rattle.site_live.proofs.running.take_steps.Given as goal

-- what is left is sound, and what it leads to, all lead to
abbrev pub invariant-loop-step : goal.invariant-loop-step
invariant-loop-step g l =
    AllByRecursion IsSoundStep l.step-iterator.rest.items
    × ((v : LiveState _) (new : Known) → Lives l.spelling (asked_of l.step-iterator.rest.items) l.live v (g.O.Write.contents l.out) new →
    Lives l.spelling (asked_of l.fn.steps) l.fn.live v (g.O.Write.contents l.fn.out) new)
