use Rattle.headline_client.proofs.Laws.{who_is}
use Rattle.headline_client.proofs.who_is_is_honest.Goals as goal

pub returns : goal.returns
returns g c = who_is
