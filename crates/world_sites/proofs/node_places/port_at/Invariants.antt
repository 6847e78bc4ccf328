use Rattle.std.proofs.Common.{◌≡◌, drop}
use Rattle.npdu.specs.Mac.{same_station}
use Rattle.node_laws.specs.site_node.Node.{node_places}
use Rattle.world_sites.proofs.node_places.port_at.Given as goal
use Rattle.world_sites.specs.Finding as spec

-- what is found in the rest is found in all
abbrev pub invariant-loop-port : goal.invariant-loop-port
invariant-loop-port g l = spec.place_from l.port (λ y. same_station y l.address) (drop l.port (node_places l.node))
    ≡ spec.port_at l.address l.node
