use Rattle.std.proofs.Common.{◌∙◌, ap, List}
use Rattle.std.specs.List.{flat_map}
use Rattle.site_parts.specs.declared.parts.Station.{Station}
use Rattle.world_sites.proofs.nodes.nodes_of.Goals as goal
use Rattle.world_sites.specs.Opening.{opens}

pub returns-clause-nodes : goal.returns-clause-nodes
returns-clause-nodes g c = c.in_ok-nodes.ensures.nodes
    ∙ ap (λ (ss : List (Station _)). flat_map (λ s. opens ss s.name s.role) ss) c.stations-stations.ensures.stations
