use Rattle.inside.proofs.Routing.{routed_is_inside}
use Rattle.inside.proofs.laws.routed_is_inside.Goals as goal

pub returns : goal.returns
returns g c = routed_is_inside
