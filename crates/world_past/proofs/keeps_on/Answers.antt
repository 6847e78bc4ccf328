use Rattle.world_past.proofs.KeepingLaws.{keeps_on}
use Rattle.world_past.proofs.keeps_on.Goals as goal

pub returns : goal.returns
returns g c = keeps_on
