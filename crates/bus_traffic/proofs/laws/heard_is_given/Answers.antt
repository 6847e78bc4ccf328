use Rattle.bus_traffic.proofs.GivenLaws.{heard_is_given}
use Rattle.bus_traffic.proofs.laws.heard_is_given.Goals as goal

pub returns : goal.returns
returns g c = heard_is_given
