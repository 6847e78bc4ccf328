use Rattle.std.proofs.Common.{rules}
use Rattle.senders.proofs.SendersLaws.{sees_item}
use Rattle.senders.proofs.senders.Senders.see.Goals as goal

-- whoever sent the next item was put among those that are known
pub loop-self-preserved : goal.loop-self-preserved
loop-self-preserved g c =
    sees_item c.loop-self.self-inside.known.items c.put.new.all.items c.loop-self.self-inside.seen c.args.items.now
    c.index-items-self.result (search rules) c.index-items-self.is c.put.ensures.kept
    (search rules) c.loop-self.invariant
