use Rattle.headline_site.proofs.Promised.{tables_left}
use Rattle.headline_site.proofs.tables_are_what_executions_leave.Goals as goal

pub returns : goal.returns
returns g c = tables_left
