use Rattle.client_tsm.proofs.Telling as telling
use Rattle.client_tsm.proofs.laws.told_is_open.Goals as goal

pub returns-clause-counts : goal.returns-clause-counts
returns-clause-counts g c = telling.counts_or_nothing

pub returns-clause-told : goal.returns-clause-told
returns-clause-told g c = telling.told_is_open
