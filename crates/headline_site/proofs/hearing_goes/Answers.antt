use Rattle.headline_site.proofs.Contracts.{client_hearing_goes, device_hearing_goes}
use Rattle.headline_site.proofs.hearing_goes.Goals as goal

pub returns : goal.returns
returns g c = record { client = client_hearing_goes; device = device_hearing_goes }
