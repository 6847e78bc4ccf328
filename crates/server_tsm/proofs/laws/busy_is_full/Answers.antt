use Rattle.server_tsm.proofs.Busy.{busy_is_full}
use Rattle.server_tsm.proofs.Fitted.{executed_is_fitted}
use Rattle.server_tsm.proofs.laws.busy_is_full.Goals as goal

pub returns-clause-busy : goal.returns-clause-busy
returns-clause-busy g c = busy_is_full

pub returns-clause-fitted : goal.returns-clause-fitted
returns-clause-fitted g c = executed_is_fitted
