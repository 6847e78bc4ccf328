use Rattle.remembered.proofs.Ordering.{dropped}
use Rattle.remembered.proofs.keys.put_back.Goals as goal

-- an asker that had none has none again
pub returns-in-None : goal.returns-in-None
returns-in-None g c =
    rw (c.in-None.is) (dropped c.args.asker c.args.key c.args.keys.now c.remove_pair.new.self c.requires c.remove_pair.ensures.values)
