use Rattle.device.proofs.OnceLaws.{heard_once}
use Rattle.device.proofs.laws.heard_once.Goals as goal

pub returns : goal.returns
returns g c = heard_once
