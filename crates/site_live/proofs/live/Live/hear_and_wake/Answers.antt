use Rattle.std.proofs.lemmas.Result.{on_ok_weaker}
use Rattle.site_live.proofs.LiveLaws.{lives_on}
use Rattle.site_live.proofs.live.Live.hear_and_wake.Goals as goal

pub returns : goal.returns
returns g c = on_ok_weaker c.wake_due.result
    (lives_on c.args.self.now c.hear_all.new.self c.wake_due.new.self
    (g.O.Write.contents c.args.out.now) (g.O.Write.contents c.hear_all.new.out) (g.O.Write.contents c.wake_due.new.out)
    c.in_ok-hear_all.ensures) c.wake_due.ensures
