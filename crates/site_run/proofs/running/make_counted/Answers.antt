use Rattle.site_run.proofs.RunLaws.{refused_printed}
use Rattle.site_run.proofs.running.make_counted.Goals as goal

pub returns-in-Err : goal.returns-in-Err
returns-in-Err g c = refused_printed c.print_refused_event.result c.args.telling c.args.event.now c.args.world.now
    c.step.new.self c.in-Err.fault c.moment-moment.result (g.W.Write.contents c.args.out.now)
    (g.W.Write.contents c.print_refused_event.new.out) c.in-Err.ensures.unchanged c.moment-moment.ensures
    c.in-Err.ensures.cause c.print_refused_event.ensures
