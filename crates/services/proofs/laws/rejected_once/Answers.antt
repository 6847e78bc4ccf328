use Rattle.services.proofs.OneReason.{one_reason}
use Rattle.services.proofs.laws.rejected_once.Goals as goal

pub returns : goal.returns
returns g c = one_reason
