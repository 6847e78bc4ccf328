use Rattle.client_tsm.proofs.Telling as telling
use Rattle.client_tsm.proofs.laws.one_plan.Goals as goal

pub returns : goal.returns
returns g c = telling.one_plan
