use Rattle.world_past.proofs.SteppingLaws.{keeps_steps}
use Rattle.world_past.proofs.keeps_steps.Goals as goal

pub returns : goal.returns
returns g c = keeps_steps
