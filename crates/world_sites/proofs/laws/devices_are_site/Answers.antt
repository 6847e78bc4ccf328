use Rattle.world_sites.proofs.SiteLaws.{devices_are_site}
use Rattle.world_sites.proofs.laws.devices_are_site.Goals as goal

pub returns : goal.returns
returns g c = devices_are_site
