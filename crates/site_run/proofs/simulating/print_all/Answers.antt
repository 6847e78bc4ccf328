use Rattle.site_run.proofs.SimulateLaws.{run_printed}
use Rattle.site_run.proofs.simulating.print_all.Goals as goal

pub returns : goal.returns
returns g c = run_printed c.print_end.result c.args.telling c.args.lines c.args.steps c.args.course.now.verdicts
    c.take_all.new.course.verdicts c.args.world.now c.take_all.new.world (g.W.Write.contents c.args.out.now)
    (g.W.Write.contents c.take_all.new.out) (g.W.Write.contents c.print_end.new.out) c.requires.fresh
    c.in_ok-take_all.ensures c.print_end.ensures.printed c.print_end.ensures.legal
