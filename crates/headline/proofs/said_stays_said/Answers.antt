use Rattle.headline.proofs.Laws.{said_stays}
use Rattle.headline.proofs.said_stays_said.Goals as goal

pub returns : goal.returns
returns g c = said_stays g.P.HasProtocol.protocol
