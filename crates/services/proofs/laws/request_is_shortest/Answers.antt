use Rattle.services.proofs.ShortestBody.{request_shortest}
use Rattle.services.proofs.laws.request_is_shortest.Goals as goal

pub returns : goal.returns
returns g c = request_shortest
