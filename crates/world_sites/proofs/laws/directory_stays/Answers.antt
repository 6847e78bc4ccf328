use Rattle.world_sites.proofs.StayLaws.{leads_still}
use Rattle.world_sites.proofs.laws.directory_stays.Goals as goal

pub returns : goal.returns
returns g c = leads_still
