use Rattle.site_run.proofs.SimulateLaws.{all_met, none_unmet, one_unmet}
use Rattle.site_run.proofs.simulating.run.Goals as goal

pub returns-clause-plain : goal.returns-clause-plain
returns-clause-plain g c = none_unmet c.print_run-printed.result c.status_of-status.result
    c.print_run-printed.new.course.verdicts c.args.telling c.args.opened.lines c.args.opened.steps c.args.opened.world
    (g.W.Write.contents c.args.out.now) (g.W.Write.contents c.print_run-printed.new.out) c.status_of-status.ensures.done
    c.status_of-status.ensures.failed c.print_run-printed.ensures

pub returns-clause-runs : goal.returns-clause-runs
returns-clause-runs g c = all_met c.print_run-printed.result c.status_of-status.result
    c.print_run-printed.new.course.verdicts c.args.telling c.args.opened.lines c.args.opened.steps c.args.opened.world
    (g.W.Write.contents c.args.out.now) (g.W.Write.contents c.print_run-printed.new.out) c.status_of-status.ensures.done
    c.status_of-status.ensures.failed c.print_run-printed.ensures

pub returns-clause-unmet : goal.returns-clause-unmet
returns-clause-unmet g c = one_unmet c.print_run-printed.result c.status_of-status.result
    c.print_run-printed.new.course.verdicts c.args.telling c.args.opened.lines c.args.opened.steps c.args.opened.world
    (g.W.Write.contents c.args.out.now) (g.W.Write.contents c.print_run-printed.new.out) c.status_of-status.ensures.done
    c.status_of-status.ensures.failed c.print_run-printed.ensures
