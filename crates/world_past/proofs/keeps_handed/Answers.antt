use Rattle.world_past.proofs.RunningLaws.{keeps_handed}
use Rattle.world_past.proofs.keeps_handed.Goals as goal

pub returns : goal.returns
returns g c = keeps_handed
