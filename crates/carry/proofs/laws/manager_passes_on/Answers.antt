use Rattle.carry.proofs.Managers.{manager_passes_on}
use Rattle.carry.proofs.laws.manager_passes_on.Goals as goal

pub returns : goal.returns
returns g c = manager_passes_on _
