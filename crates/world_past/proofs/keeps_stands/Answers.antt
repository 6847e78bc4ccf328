use Rattle.world_past.proofs.SteppingLaws.{keeps_stands}
use Rattle.world_past.proofs.keeps_stands.Goals as goal

pub returns : goal.returns
returns g c = keeps_stands
