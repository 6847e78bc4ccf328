use Rattle.device.proofs.SupportedLaws.{services_are_supported}
use Rattle.device.proofs.laws.services_are_supported.Goals as goal

pub returns : goal.returns
returns g c = services_are_supported
