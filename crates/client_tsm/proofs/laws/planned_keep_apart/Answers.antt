use Rattle.client_tsm.proofs.Apart as apart
use Rattle.client_tsm.proofs.laws.planned_keep_apart.Goals as goal

pub returns : goal.returns
returns g c = apart.planned_keep_apart
