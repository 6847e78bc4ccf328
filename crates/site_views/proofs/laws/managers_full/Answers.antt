use Rattle.site_views.proofs.FullLaws.{managers_are_full}
use Rattle.site_views.proofs.laws.managers_full.Goals as goal

pub returns : goal.returns
returns g c = managers_are_full
