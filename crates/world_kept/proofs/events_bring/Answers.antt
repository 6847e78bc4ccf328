use Rattle.world_kept.proofs.KeptLaws.{events_bring}
use Rattle.world_kept.proofs.events_bring.Goals as goal

pub returns : goal.returns
returns g c = events_bring
