use Rattle.headline_site.proofs.Executions.{executed_is_issued}
use Rattle.headline_site.proofs.executed_is_issued.Goals as goal

pub returns : goal.returns
returns g c = executed_is_issued
