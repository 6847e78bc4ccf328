use Rattle.std.proofs.Common.{arith, ◌≡◌, sym, subst, List, []}
use Rattle.std.specs.List.{AllByRecursion}
use Rattle.site_live.proofs.LiveLaws.{lives_none, none_left, step_before}
use Rattle.site_live.proofs.running.take_steps.Goals as goal
use Rattle.site_live.specs.Running.{Lives}
use Rattle.script.specs.Steps.{IsSoundStep}
use Rattle.site_live.specs.Steps.{asked_of}
use Rattle.script.specs.declared.step.Step.{Step}

-- the step that was taken, and then those of the rest
pub loop-step-preserved : goal.loop-step-preserved
loop-step-preserved g c = (
  (subst (λ (ss : List (Step _)). AllByRecursion IsSoundStep ss) c.in-Some.ensures.steps.0
      c.loop-step.invariant.0).1,
  λ v new rest. c.loop-step.invariant.1 v new
      (subst (λ (ss : List (Step _)). Lives c.args.spelling (asked_of ss) c.loop-step.live v (g.O.Write.contents c.loop-step.out) new)
      (sym c.in-Some.ensures.steps.0)
      (step_before c.in-Some.step c.next.new.self.rest.items c.loop-step.live c.take_step.new.self v
      (g.O.Write.contents c.loop-step.out) (g.O.Write.contents c.take_step.new.out) new c.in_ok-take_step.ensures.lives
      rest)),
)

pub returns : goal.returns
returns g c =
    let none : c.loop-step.step-iterator.rest.items ≡ [] =
    none_left c.loop-step.step-iterator.rest.items
    (omega (arith, c.loop-step.step-iterator.rest.ok.0, c.in-None.ensures.steps.0)) in
    let k = g.O.Write.contents c.loop-step.out in
    c.loop-step.invariant.1 c.loop-step.live k
    (subst (λ (ss : List (Step _)). Lives c.args.spelling (asked_of ss) c.loop-step.live c.loop-step.live k k) (sym none)
    (lives_none c.loop-step.live k))
