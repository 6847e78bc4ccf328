use Rattle.std.proofs.Common.{refl}
use Rattle.mstp_frame.proofs.Reading.{whole_is}
use Rattle.mstp_frame.proofs.Taking.{kept_silent, all_used, ended_used}
use Rattle.mstp_frame.proofs.deframer.Deframer.feed.Goals as goal

pub returns : goal.returns
returns c =
    let after = c.take_all-used.new.self in (
      (refl, λ d. tt, (rw (← c.self.view_is, c.frame.ensures.frame) c.take_all-used.ensures.leads, kept_silent after c.take_all-used.ensures.ready)),
      record {
        after = tt;
        some = c.take_all-used.ensures.some;
        used = c.take_all-used.ensures.used;
        all = all_used after c.frame.result _ c.frame.ensures.frame c.take_all-used.ensures.all;
        ended = ended_used after c.frame.result _ c.frame.ensures.frame c.take_all-used.ensures.ended;
        named = c.frame.ensures.named;
        whole = whole_is after c.frame.result c.whole.result.now c.take_all-used.ensures.ready c.frame.ensures.frame c.whole.ensures;
      },
    )
