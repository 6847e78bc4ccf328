use Rattle.headline_site.proofs.Promised.{stays_said}
use Rattle.headline_site.proofs.said_stays_said.Goals as goal

pub returns : goal.returns
returns g c = stays_said
