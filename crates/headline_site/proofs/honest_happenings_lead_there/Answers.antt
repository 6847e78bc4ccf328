use Rattle.headline_site.proofs.Promised.{reached}
use Rattle.headline_site.proofs.honest_happenings_lead_there.Goals as goal

pub returns : goal.returns
returns g c = reached
