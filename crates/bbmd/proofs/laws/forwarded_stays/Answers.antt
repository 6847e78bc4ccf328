use Rattle.bbmd.proofs.Tables.{forwarded_is_same, forwarded_stays}
use Rattle.bbmd.proofs.laws.forwarded_stays.Goals as goal

pub returns-clause-stays : goal.returns-clause-stays
returns-clause-stays c = forwarded_stays

pub returns-clause-same : goal.returns-clause-same
returns-clause-same c = forwarded_is_same
