use Rattle.world_past.proofs.StrayLaws.{keeps_stray_refused, keeps_strays}
use Rattle.world_past.proofs.keeps_strays.Goals as goal

pub returns : goal.returns
returns g c = record { heard = keeps_strays; refused = keeps_stray_refused }
