use Rattle.world_sites.proofs.FreshLaws.{nodes_are_of_site}
use Rattle.world_sites.proofs.StandLaws.{nodes_stand}
use Rattle.world_sites.proofs.laws.nodes_stand.Goals as goal

pub returns : goal.returns
returns g c = record { stand = nodes_stand; of_site = nodes_are_of_site }
