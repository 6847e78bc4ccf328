use Rattle.world_answered.proofs.Routed.{routed_at_once, routed_later}
use Rattle.world_answered.proofs.is_answered_over_a_router.Goals as goal

pub returns : goal.returns
returns g c = record { at_once = routed_at_once; later = routed_later }
