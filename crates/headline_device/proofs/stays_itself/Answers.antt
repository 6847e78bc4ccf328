use Rattle.headline_device.proofs.Itself.{itself_hearing, itself_restarting, itself_waking}
use Rattle.headline_device.proofs.stays_itself.Goals as goal

pub returns : goal.returns
returns g c = record { hearing = itself_hearing; waking = itself_waking; restarting = itself_restarting }
