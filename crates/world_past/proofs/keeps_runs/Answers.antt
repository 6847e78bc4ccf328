use Rattle.world_past.proofs.RunningLaws.{keeps_comes, keeps_runs}
use Rattle.world_past.proofs.keeps_runs.Goals as goal

pub returns : goal.returns
returns g c = record { one = keeps_comes; any = keeps_runs }
