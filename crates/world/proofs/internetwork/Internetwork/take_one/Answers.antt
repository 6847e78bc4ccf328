use Rattle.world.proofs.EventLaws.{ok_map}
use Rattle.world.proofs.HearingLaws.{one_first}
use Rattle.world.proofs.internetwork.Internetwork.take_one.Goals as goal

-- that frame is all
pub returns-in-len1-up-clause-takes : goal.returns-in-len1-up-clause-takes
returns-in-len1-up-clause-takes g c =
    ok_map c.take_frame.result
    (one_first c.args.listener c.args.frames.now c.frame-item.result c.args.rest c.args.self.now
    c.take_frame.new.self c.in-len1-up.len_at_least c.frame-item.is c.requires.one)
    c.take_frame.ensures.takes
