use Rattle.site_views.proofs.ApartLaws.{devices_are_apart}
use Rattle.site_views.proofs.laws.devices_apart.Goals as goal

pub returns : goal.returns
returns g c = devices_are_apart
