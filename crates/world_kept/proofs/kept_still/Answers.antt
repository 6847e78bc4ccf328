use Rattle.world_kept.proofs.KeptLaws.{events_keep, forgetting_keeps, handing_out_keeps}
use Rattle.world_kept.proofs.kept_still.Goals as goal

pub returns : goal.returns
returns g c = record { event = events_keep; handed = handing_out_keeps; forgotten = forgetting_keeps }
