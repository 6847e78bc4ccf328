use Rattle.headline_server.proofs.Waking.{new_is_served}
use Rattle.headline_server.proofs.new_is_served.Goals as goal

pub returns : goal.returns
returns g c = new_is_served
