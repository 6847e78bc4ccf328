use Rattle.carry_said.proofs.Hearing.{said_still}
use Rattle.carry_said.proofs.said_still.Goals as goal

pub returns : goal.returns
returns g c = said_still
