use Rattle.std.proofs.Common.{◌≡◌, drop}
use Rattle.npdu.specs.declared.mac.Station.{Station}
use Rattle.node_laws.specs.site_node.Node.{node_places}
use Rattle.world_sites.proofs.NodePlaceLaws.{kept_then}
use Rattle.world_sites.proofs.node_places.put_addresses.Given as goal

-- once the places that are left are put in too, all are
abbrev pub invariant-loop-port : goal.invariant-loop-port
invariant-loop-port g l = (x : Station) →
    kept_then l.place l.places (drop l.port (node_places l.node)) x
    ≡ kept_then l.place l.fn.places (node_places l.node) x
