use Rattle.site_live.proofs.LiveLaws.{three_times}
use Rattle.site_live.proofs.running.take_all.Goals as goal
use Rattle.site_live.specs.Steps.{asked_of}

pub returns : goal.returns
returns g c =
    three_times c.go_on.result (asked_of c.args.steps) c.args.live.now c.take_round.new.self c.take_steps.new.live c.go_on.new.live
    (g.O.Write.contents c.args.out.now) (g.O.Write.contents c.take_round.new.out)
    (g.O.Write.contents c.take_steps.new.out) (g.O.Write.contents c.go_on.new.out) c.in_ok-take_round.ensures.lives
    c.in_ok-take_steps.ensures c.go_on.ensures
