use Rattle.std.proofs.Common.{arith, ◌≡◌, ◌∙◌, sym, subst, List, [], ◌++◌}
use Rattle.std.proofs.lemmas.List.{append-nil}
use Rattle.std.specs.List.{AllByRecursion}
use Rattle.script.specs.Steps.{IsSoundStep}
use Rattle.script.specs.declared.step.Step.{Step}
use Rattle.site_live.proofs.LiveLaws.{none_left}
use Rattle.site_live.proofs.StepLaws.{all_and_one, live_before}
use Rattle.site_live.proofs.reading.all_live.Goals as goal
use Rattle.site_live.specs.Steps.{AreLive}

-- nothing was put yet
pub loop-step-init : goal.loop-step-init
loop-step-init g c =
    let all = c.into_iter-step-iterator.ensures.into_iter_gives.0 ∙ c.into_vec-step-items.ensures in (
      subst (λ (ss : List (Step _)). AllByRecursion IsSoundStep ss) (sym all) c.requires.sound,
      subst (λ (ss : List (Step _)). AllByRecursion IsSoundStep ss) (sym c.new-steps.ensures) tt,
      λ more live. subst (λ (ss : List (Step _)). AreLive c.args.said (ss ++ more)) (sym c.new-steps.ensures)
          (subst (λ (ss : List (Step _)). AreLive ss more) all live),
    )

-- the step that was put, and then what the rest asks for
pub loop-step-preserved : goal.loop-step-preserved
loop-step-preserved g c = (
  (subst (λ (ss : List (Step _)). AllByRecursion IsSoundStep ss) c.in-Some.ensures.steps.0 c.loop-step.invariant.0).1,
  subst (λ (l : List (Step _)). AllByRecursion IsSoundStep l) (sym c.in_ok-push.ensures.pushed)
      (all_and_one IsSoundStep c.loop-step.steps c.in-Some-live_step.step c.loop-step.invariant.1
      c.in-Some-live_step.ensures.sound),
  λ more rest. live_before c.in-Some.step c.next.new.self.rest.items c.args.said c.in-Some-live_step.step
      c.loop-step.steps c.push.new.self more c.in-Some-live_step.ensures.live c.in_ok-push.ensures.pushed
      (subst (λ (ss : List (Step _)). (m : List (Step _)) → AreLive ss m →
      AreLive c.args.said (c.loop-step.steps ++ m)) c.in-Some.ensures.steps.0 c.loop-step.invariant.2) rest,
)

pub returns-clause-live : goal.returns-clause-live
returns-clause-live g c =
    let none : c.loop-step.step-iterator.rest.items ≡ [] =
    none_left c.loop-step.step-iterator.rest.items
    (omega (arith, c.loop-step.step-iterator.rest.ok.0, c.in-None.ensures.steps.0)) in
    subst (λ (l : List (Step _)). AreLive c.args.said l) (append-nil c.loop-step.steps)
    (c.loop-step.invariant.2 [] (subst (λ (ss : List (Step _)). AreLive ss []) (sym none) tt))
