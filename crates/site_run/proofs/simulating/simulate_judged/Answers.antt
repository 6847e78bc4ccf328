use Rattle.std.proofs.Common.{true, false}
use Rattle.site_run.proofs.SimulateLaws.{simulated}
use Rattle.site_run.proofs.simulating.simulate_judged.Goals as goal

pub returns-in-Ok-clause-simulates : goal.returns-in-Ok-clause-simulates
returns-in-Ok-clause-simulates g c = λ status. simulated c.args.telling false c.args.site.now c.args.script.now
    c.in-Ok.opened.lines c.in-Ok.opened.steps c.in-Ok.opened.world (g.W.Write.contents c.args.out.now)
    (g.W.Write.contents c.run.new.out) c.in-Ok.ensures.opened c.in-Ok.ensures.lines (c.run.ensures.runs status)

pub returns-in-Ok-clause-unmet : goal.returns-in-Ok-clause-unmet
returns-in-Ok-clause-unmet g c = λ status. simulated c.args.telling true c.args.site.now c.args.script.now
    c.in-Ok.opened.lines c.in-Ok.opened.steps c.in-Ok.opened.world (g.W.Write.contents c.args.out.now)
    (g.W.Write.contents c.run.new.out) c.in-Ok.ensures.opened c.in-Ok.ensures.lines (c.run.ensures.unmet status)
