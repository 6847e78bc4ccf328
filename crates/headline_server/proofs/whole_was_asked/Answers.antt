use Rattle.headline_server.proofs.Executing.{whole_was_asked}
use Rattle.headline_server.proofs.whole_was_asked.Goals as goal

pub returns : goal.returns
returns g c = whole_was_asked
