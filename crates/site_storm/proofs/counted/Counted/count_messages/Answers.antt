use Rattle.std.proofs.lemmas.Result.{on_ok_weaker}
use Rattle.site_storm.proofs.CountedLaws.{messages_so}
use Rattle.site_storm.proofs.counted.Counted.count_messages.Goals as goal

-- those that weren't counted are
pub returns : goal.returns
returns g c = on_ok_weaker c.add_messages.result
    (λ is. messages_so c.args.self.now c.add_messages.new.self c.messages_in-more.result c.said_count-count.result
    c.uncounted.result.now c.uncounted.ensures c.messages_in-more.ensures c.said_count-count.ensures is)
    c.add_messages.ensures
