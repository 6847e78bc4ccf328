use Rattle.headline_device.proofs.Doing.{hearing_is_done}
use Rattle.headline_device.proofs.hearing_is_done.Goals as goal

pub returns : goal.returns
returns g c = hearing_is_done
