use Rattle.std.proofs.Common.{◌≡◌, drop}
use Rattle.node_laws.specs.site_node.Node.{node_places}
use Rattle.world_sites.proofs.listening.first_on.Given as goal
use Rattle.world_sites.specs.Finding.{place_from, place_of}
use Rattle.world_sites.specs.Listening.{is_on}

-- what is found in the rest is found in all
abbrev pub invariant-loop-port : goal.invariant-loop-port
invariant-loop-port g l = place_from l.port (λ x. is_on l.network x) (drop l.port (node_places l.node))
    ≡ place_of (λ x. is_on l.network x) (node_places l.node)
