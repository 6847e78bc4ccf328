use Rattle.headline_server.proofs.Executing.{told_may_be_executed}
use Rattle.headline_server.proofs.told_may_be_executed.Goals as goal

pub returns : goal.returns
returns g c = told_may_be_executed
