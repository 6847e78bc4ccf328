use Rattle.headline_client.proofs.Heard.{said_is_heard}
use Rattle.headline_client.proofs.said_is_heard.Goals as goal

pub returns : goal.returns
returns g c = said_is_heard
