use Rattle.std.proofs.Common.{◌≡◌, take}
use Rattle.node_laws.specs.site_ports.Ports.{places_of}
use Rattle.world_sites.proofs.relays.router_over.Given as goal

abbrev pub invariant-loop-port : goal.invariant-loop-port
invariant-loop-port g l = l.places ≡ places_of (take l.port-index l.ports)
