use Rattle.server_tsm.proofs.Planned.{joined_is_executed, whole_is_executed}
use Rattle.server_tsm.proofs.laws.whole_is_executed.Goals as goal

pub returns-clause-whole : goal.returns-clause-whole
returns-clause-whole g c = whole_is_executed

pub returns-clause-joined : goal.returns-clause-joined
returns-clause-joined g c = joined_is_executed
