use Rattle.world_sites.proofs.AgreeLaws.{names_agree, places_agree}
use Rattle.world_sites.proofs.laws.nodes_agree.Goals as goal

pub returns : goal.returns
returns g c = record { places = places_agree; names = names_agree }
