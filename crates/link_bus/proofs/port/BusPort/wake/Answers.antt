use Rattle.link_bus.proofs.Doing.{wakes_it}
use Rattle.link_bus.proofs.port.BusPort.wake.Goals as goal

pub returns-clause-wakes : goal.returns-clause-wakes
returns-clause-wakes g c = wakes_it c.args.now c.args.port _ _ _ c.args.self.now _ _ _ c.self.view_is
    c.in_ok-frames.ensures.out c.in_ok-frames.ensures.left c.in_ok-put_over.ensures.put
