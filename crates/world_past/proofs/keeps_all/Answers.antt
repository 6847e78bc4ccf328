use Rattle.world_past.proofs.KeepingLaws.{keeps_all}
use Rattle.world_past.proofs.keeps_all.Goals as goal

pub returns : goal.returns
returns g c = keeps_all
