use Rattle.client_tsm.proofs.Ending as ending
use Rattle.client_tsm.proofs.laws.woken_are_ended.Goals as goal

pub returns-clause-ended : goal.returns-clause-ended
returns-clause-ended g c = ending.woken_are_ended

pub returns-clause-each : goal.returns-clause-each
returns-clause-each g c = ending.told_or_left
