use Rattle.bbmd.proofs.Tables.{broadcast_goes_on, distributed_goes_on}
use Rattle.bbmd.proofs.laws.goes_on.Goals as goal

pub returns-clause-broadcast : goal.returns-clause-broadcast
returns-clause-broadcast c = broadcast_goes_on

pub returns-clause-distributed : goal.returns-clause-distributed
returns-clause-distributed c = distributed_goes_on
