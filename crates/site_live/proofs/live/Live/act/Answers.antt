use Rattle.std.proofs.lemmas.Result.{on_ok_weaker}
use Rattle.site_live.proofs.LiveLaws.{lives_on}
use Rattle.site_live.proofs.live.Live.act.Goals as goal

pub returns : goal.returns
returns g c = on_ok_weaker c.register_all.result
    (lives_on c.args.self.now c.hear_and_wake.new.self c.register_all.new.self
    (g.O.Write.contents c.args.out.now) (g.O.Write.contents c.hear_and_wake.new.out) (g.O.Write.contents c.register_all.new.out)
    c.in_ok-hear_and_wake.ensures) c.register_all.ensures
