use Rattle.bus_traffic.proofs.ForgettingLaws.{forgets_so}
use Rattle.bus_traffic.proofs.bus.Bus.forget.Goals as goal
use Rattle.bus_traffic.specs.Bus.{bus_of}

-- what is left is kept
pub returns : goal.returns
returns g c = forgets_so c.args.now (bus_of c.args.self.now) (bus_of c.forget_known.new.self) c.args.self.now.once
    c.forget_known.ensures
