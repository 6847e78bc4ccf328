use Rattle.headline_device.proofs.Doing.{waking_is_done}
use Rattle.headline_device.proofs.waking_is_done.Goals as goal

pub returns : goal.returns
returns g c = waking_is_done
