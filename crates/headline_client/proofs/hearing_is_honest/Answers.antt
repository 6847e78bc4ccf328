use Rattle.headline_client.proofs.Laws.{hearing}
use Rattle.headline_client.proofs.hearing_is_honest.Goals as goal

pub returns : goal.returns
returns g c = hearing
