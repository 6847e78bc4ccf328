use Rattle.world_answered.proofs.Direct.{answered_at_once, answered_later}
use Rattle.world_answered.proofs.is_answered.Goals as goal

pub returns : goal.returns
returns g c = record { at_once = answered_at_once; later = answered_later }
