use Rattle.headline_server.proofs.Waking.{announce_refines}
use Rattle.headline_server.proofs.announce_refines.Goals as goal

pub returns : goal.returns
returns g c = announce_refines
