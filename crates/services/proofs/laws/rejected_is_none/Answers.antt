use Rattle.services.proofs.NoRequest.{request_not_spelled}
use Rattle.services.proofs.laws.rejected_is_none.Goals as goal

pub returns : goal.returns
returns g c = request_not_spelled
