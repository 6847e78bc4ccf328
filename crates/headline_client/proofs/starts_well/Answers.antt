use Rattle.headline_client.proofs.Laws.{starts}
use Rattle.headline_client.proofs.starts_well.Goals as goal

pub returns : goal.returns
returns g c = starts
