use Rattle.world_past.proofs.RefusedLaws.{keeps_refused}
use Rattle.world_past.proofs.keeps_refused.Goals as goal

pub returns : goal.returns
returns g c = keeps_refused
