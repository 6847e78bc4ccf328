use Rattle.carry_said.proofs.Devices.{device_says}
use Rattle.carry_said.proofs.device_says.Goals as goal

pub returns : goal.returns
returns g c = device_says
