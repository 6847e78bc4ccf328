use Rattle.link_bus.specs.CarryLaws.{data_carries}
use Rattle.link_bus.proofs.laws.data_carry.Goals as goal

pub returns : goal.returns
returns g c = data_carries
