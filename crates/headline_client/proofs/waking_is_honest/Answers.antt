use Rattle.headline_client.proofs.Laws.{waking}
use Rattle.headline_client.proofs.waking_is_honest.Goals as goal

pub returns : goal.returns
returns g c = waking
