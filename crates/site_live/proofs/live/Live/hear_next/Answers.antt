use Rattle.site_live.proofs.HearLaws.{hearing_refused}
use Rattle.site_live.proofs.live.Live.hear_next.Goals as goal

-- why no frame is heard, is printed
pub returns-in_ok-refuse-in-Err-clause-lives : goal.returns-in_ok-refuse-in-Err-clause-lives
returns-in_ok-refuse-in-Err-clause-lives g c =
    hearing_refused c.in-Err.fault c.world.result.now c.args.heard.now c.next_hear.new.heard c.args.self.now
    c.refuse.new.self (g.O.Write.contents c.args.out.now) (g.O.Write.contents c.refuse.new.out) c.world.ensures
    c.in-Err.ensures.next c.in_ok-refuse-in-Err.ensures
