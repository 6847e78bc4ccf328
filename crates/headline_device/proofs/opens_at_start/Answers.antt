use Rattle.headline_device.proofs.Doing.{opens_at_start}
use Rattle.headline_device.proofs.opens_at_start.Goals as goal

pub returns : goal.returns
returns g c = opens_at_start
