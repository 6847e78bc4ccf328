use Rattle.site_live.proofs.LiveLaws.{lives_on, passed_over}
use Rattle.site_live.proofs.live.Live.wake_next.Goals as goal

-- stations are passed over, and then one wakes
pub returns-clause-lives : goal.returns-clause-lives
returns-clause-lives g c =
    let k = g.O.Write.contents c.args.out.now in
    lives_on c.args.self.now c.pass_over.new.self c.wake.new.self k k (g.O.Write.contents c.wake.new.out)
    (passed_over c.args.self.now c.pass_over.new.self k c.pass_over.ensures.passes) c.in_ok-wake.ensures.lives
