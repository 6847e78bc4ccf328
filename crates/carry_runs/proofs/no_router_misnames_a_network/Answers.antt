use Rattle.carry_runs.proofs.Misnamed.{none_misnames}
use Rattle.carry_runs.proofs.no_router_misnames_a_network.Goals as goal

pub returns : goal.returns
returns g c = none_misnames
