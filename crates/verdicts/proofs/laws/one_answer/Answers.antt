use Rattle.verdicts.proofs.VerdictLaws.{one_reply}
use Rattle.verdicts.proofs.laws.one_answer.Goals as goal

pub returns : goal.returns
returns g c = one_reply
