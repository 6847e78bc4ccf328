use Rattle.link_bus.proofs.Doing.{rests}
use Rattle.link_bus.proofs.port.BusPort.rest.Goals as goal

pub returns : goal.returns
returns g c = rests c.args.now _ _ c.requires.quiet c.come_later.ensures
