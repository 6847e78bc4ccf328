use Rattle.headline_server.proofs.Waking.{size_stays}
use Rattle.headline_server.proofs.size_stays.Goals as goal

pub returns : goal.returns
returns g c = size_stays
