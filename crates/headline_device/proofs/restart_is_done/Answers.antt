use Rattle.headline_device.proofs.Doing.{restart_is_done}
use Rattle.headline_device.proofs.restart_is_done.Goals as goal

pub returns : goal.returns
returns g c = restart_is_done
