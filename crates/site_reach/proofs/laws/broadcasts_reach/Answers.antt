use Rattle.site_reach.proofs.Full.{all_reached}
use Rattle.site_reach.proofs.laws.broadcasts_reach.Goals as goal

pub returns : goal.returns
returns g c = all_reached
