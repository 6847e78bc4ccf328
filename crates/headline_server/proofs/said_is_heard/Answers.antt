use Rattle.headline_server.proofs.Heard.{said_is_heard}
use Rattle.headline_server.proofs.said_is_heard.Goals as goal

pub returns : goal.returns
returns g c = said_is_heard
