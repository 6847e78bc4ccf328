use Rattle.verdicts.proofs.VerdictLaws.{answered_once}
use Rattle.verdicts.proofs.laws.answered_is_executed_once.Goals as goal

pub returns : goal.returns
returns g c = answered_once
