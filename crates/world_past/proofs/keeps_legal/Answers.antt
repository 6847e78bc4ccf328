use Rattle.world_past.proofs.RunningLaws.{keeps_legal, keeps_runs_legal}
use Rattle.world_past.proofs.keeps_legal.Goals as goal

pub returns : goal.returns
returns g c = record { now = keeps_legal; later = keeps_runs_legal }
