use Rattle.headline_site.proofs.Steps.{begins_well, step_goes}
use Rattle.headline_site.proofs.step_refines.Goals as goal

pub returns : goal.returns
returns g c = record { step = step_goes; begin = begins_well }
