use Rattle.world_past.proofs.SteppingLaws.{keeps_happens}
use Rattle.world_past.proofs.keeps_happens.Goals as goal

pub returns : goal.returns
returns g c = keeps_happens
