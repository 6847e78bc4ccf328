use Rattle.bbmd.proofs.Reached.{reaches}
use Rattle.bbmd.proofs.spreading.reach.Goals as goal

pub returns : goal.returns
returns g c = reaches
