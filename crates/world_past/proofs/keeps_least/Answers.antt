use Rattle.bus_traffic.proofs.ForgettingLaws.{known_once}
use Rattle.world_past.proofs.ForgettingLaws.{keeps_least}
use Rattle.world_past.proofs.keeps_least.Goals as goal

pub returns : goal.returns
returns g c = record { least = keeps_least; once = known_once }
