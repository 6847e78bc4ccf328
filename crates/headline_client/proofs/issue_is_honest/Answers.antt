use Rattle.headline_client.proofs.Laws.{issuing}
use Rattle.headline_client.proofs.issue_is_honest.Goals as goal

pub returns : goal.returns
returns g c = issuing
