use Rattle.server_tsm.proofs.Kept.{planned_kept}
use Rattle.server_tsm.proofs.laws.planned_stays_kept.Goals as goal

pub returns : goal.returns
returns g c = planned_kept
