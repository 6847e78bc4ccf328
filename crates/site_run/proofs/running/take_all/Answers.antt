use Rattle.std.proofs.Common.{arith, rules, ◌≡◌, ◌∙◌, refl, ap, sym, subst, Bool, ℕ, List, [], ◌∷◌, Option, drop, slice_get}
use Rattle.std.specs.List.{AllByRecursion}
use Rattle.script.specs.Steps.{IsSoundStep}
use Rattle.script.specs.declared.step.Step.{Step}
use Rattle.site_history.specs.simulator.world.World.{WorldState}
use Rattle.site_run.specs.Running.{Known, TakesStep, TakesSteps, at_line}
use Rattle.site_run.specs.declared.running.Telling.{Telling}
use Rattle.site_run.proofs.RunLaws.{none_left, step_before}
use Rattle.site_run.proofs.running.take_all.Goals as goal

-- all of them are left
pub loop-step-init : goal.loop-step-init
loop-step-init g c =
    let all : c.into_iter-step-iterator.result.rest.items ≡ c.args.steps = search rules in (
      subst (λ (ss : List (Step _)). AllByRecursion IsSoundStep ss) (sym all) c.requires.sound,
      λ now v new taken. subst (λ (ss : List (Step _)). TakesSteps c.args.telling c.args.lines ss
          c.args.course.now.verdicts now c.args.world.now v (g.W.Write.contents c.args.out.now) new) all taken,
    )

-- a step was taken, and then the rest
pub loop-step-preserved : goal.loop-step-preserved
loop-step-preserved g c =
    let parts : c.loop-step.step-iterator.rest.items ≡ c.in-Some.step ∷ c.next.new.self.rest.items = search rules in
    let told : c.at.result ≡ at_line (slice_get c.loop-step.lines 0) c.args.telling =
    c.at.ensures ∙ ap (λ (l : Option ℕ). at_line l c.args.telling) c.next-line.ensures.given in
    let first = subst (λ (t : Telling). TakesStep t c.in-Some.step c.loop-step.course.verdicts
    c.take_step.new.course.verdicts c.loop-step.world c.take_step.new.world (g.W.Write.contents c.loop-step.out)
    (g.W.Write.contents c.take_step.new.out)) told c.in_ok-take_step.ensures in
    let sound = subst (λ (ss : List (Step _)). AllByRecursion IsSoundStep ss) parts c.loop-step.invariant.0 in (
      sound.1,
      λ now v new taken. c.loop-step.invariant.1 now v new
          (subst (λ (ss : List (Step _)). TakesSteps c.args.telling c.loop-step.lines ss c.loop-step.course.verdicts now
          c.loop-step.world v (g.W.Write.contents c.loop-step.out) new) (sym parts)
          (step_before c.args.telling c.loop-step.lines c.in-Some.step c.next.new.self.rest.items
          c.loop-step.course.verdicts c.take_step.new.course.verdicts now c.loop-step.world c.take_step.new.world v
          (g.W.Write.contents c.loop-step.out) (g.W.Write.contents c.take_step.new.out) new first
          (subst (λ (ls : List ℕ). TakesSteps c.args.telling ls c.next.new.self.rest.items
          c.take_step.new.course.verdicts now c.take_step.new.world v (g.W.Write.contents c.take_step.new.out) new)
          c.next-line.ensures.left taken))),
    )

pub returns : goal.returns
returns g c =
    let none : c.loop-step.step-iterator.rest.items ≡ [] =
    none_left c.loop-step.step-iterator.rest.items
    (omega (arith, c.loop-step.step-iterator.rest.ok.0, c.in-None.ensures.steps.0)) in
    c.loop-step.invariant.1 c.loop-step.course.verdicts c.loop-step.world (g.W.Write.contents c.loop-step.out)
    (subst (λ (ss : List (Step _)). TakesSteps c.args.telling c.loop-step.lines ss c.loop-step.course.verdicts
    c.loop-step.course.verdicts c.loop-step.world c.loop-step.world
    (g.W.Write.contents c.loop-step.out) (g.W.Write.contents c.loop-step.out)) (sym none) (refl, refl, refl))
