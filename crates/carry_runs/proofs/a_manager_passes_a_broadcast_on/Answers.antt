use Rattle.carry_runs.proofs.Distributing.{is_forwarded}
use Rattle.carry_runs.proofs.a_manager_passes_a_broadcast_on.Goals as goal

pub returns : goal.returns
returns g c = is_forwarded
