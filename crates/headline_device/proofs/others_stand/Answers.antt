use Rattle.headline_device.proofs.Doing.{others_stand}
use Rattle.headline_device.proofs.others_stand.Goals as goal

pub returns : goal.returns
returns g c = others_stand
