use Rattle.world_sites.proofs.DeviceLaws.{devices_open}
use Rattle.world_sites.proofs.laws.devices_open.Goals as goal

pub returns : goal.returns
returns g c = devices_open
