use Rattle.std.proofs.Common.{◌≡◌, ◌++◌, drop, map}
use Rattle.std.specs.List.{flat_map}
use Rattle.bus_traffic.specs.Bus.{bus_of}
use Rattle.world_sites.specs.Buses as spec
use Rattle.world_sites.proofs.buses.buses_in.Given as goal

-- the networks that are left come behind those that are there
abbrev pub invariant-loop-network : goal.invariant-loop-network
invariant-loop-network g l =
    (map (λ b. bus_of b) l.out.items
    ++ flat_map (λ n. spec.bus_of_kind l.all n.number n.link_kind) (drop l.network-index l.networks)
    ≡ flat_map (λ n. spec.bus_of_kind l.all n.number n.link_kind) l.networks)
