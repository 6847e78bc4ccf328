use Rattle.world_past.proofs.RunningLaws.{keeps_forgotten}
use Rattle.world_past.proofs.keeps_forgotten.Goals as goal

pub returns : goal.returns
returns g c = keeps_forgotten
