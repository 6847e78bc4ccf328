use Rattle.server_tsm.proofs.Planned.{one_plan}
use Rattle.server_tsm.proofs.laws.one_plan.Goals as goal

pub returns : goal.returns
returns g c = one_plan
