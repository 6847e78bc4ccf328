use Rattle.world_sites.proofs.FreshLaws.{nodes_are_fresh}
use Rattle.world_sites.proofs.laws.nodes_are_fresh.Goals as goal

pub returns : goal.returns
returns g c = nodes_are_fresh
