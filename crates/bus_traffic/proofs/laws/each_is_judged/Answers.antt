use Rattle.bus_traffic.proofs.YoungestLaws.{each_is_judged}
use Rattle.bus_traffic.proofs.laws.each_is_judged.Goals as goal

pub returns : goal.returns
returns g c = each_is_judged
