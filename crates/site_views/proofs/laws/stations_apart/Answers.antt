use Rattle.site_views.proofs.ApartLaws.{addresses_apart}
use Rattle.site_views.proofs.laws.stations_apart.Goals as goal

pub returns : goal.returns
returns g c = addresses_apart
