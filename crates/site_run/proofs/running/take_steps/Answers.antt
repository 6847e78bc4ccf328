use Rattle.std.proofs.Common.{◌∙◌, subst, List}
use Rattle.script.specs.declared.step.Step.{Step}
use Rattle.site_run.proofs.JudgeLaws.{takes_all}
use Rattle.site_run.proofs.running.take_steps.Goals as goal
use Rattle.site_run.specs.Running.{TakesSteps}

pub returns : goal.returns
returns g c = takes_all c.args.telling c.args.lines c.args.steps c.new-course.result.verdicts
    c.take_all.new.course.verdicts c.args.world.now c.take_all.new.world (g.W.Write.contents c.args.out.now)
    (g.W.Write.contents c.take_all.new.out)
    (subst (λ (ss : List (Step _)). TakesSteps c.args.telling c.args.lines ss c.new-course.result.verdicts
    c.take_all.new.course.verdicts c.args.world.now c.take_all.new.world (g.W.Write.contents c.args.out.now)
    (g.W.Write.contents c.take_all.new.out)) (c.from_vec.ensures ∙ c.into_vec-steps.ensures) c.in_ok-take_all.ensures)
