use Rattle.headline_site.proofs.Placed.{site_has_each, site_is_site}
use Rattle.headline_site.proofs.site_is_site.Goals as goal

pub returns : goal.returns
returns g c = record { site = site_is_site; each = site_has_each }
