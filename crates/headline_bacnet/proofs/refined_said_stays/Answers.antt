use Rattle.headline_bacnet.proofs.Refining.{refined_said_stays}
use Rattle.headline_bacnet.proofs.refined_said_stays.Goals as goal

pub returns : goal.returns
returns g c = refined_said_stays
