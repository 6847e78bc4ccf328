use Rattle.std.proofs.Common.{◌≡◌, ◌++◌, drop}
use Rattle.std.specs.List.{flat_map}
use Rattle.bus_traffic.specs.Bus.{bus_of}
use Rattle.world_sites.specs.Buses.{ear_on}
use Rattle.world_sites.proofs.buses.put_ears.Given as goal

-- the ears of the links that are left come behind those that it has
abbrev pub invariant-loop-link : goal.invariant-loop-link
invariant-loop-link g l =
    (record (bus_of l.bus) {
      ears = l.bus.ears.items ++ flat_map (ear_on l.net) (drop l.link-index l.links);
    } ≡ record (bus_of l.fn.bus) { ears = l.fn.bus.ears.items ++ flat_map (ear_on l.net) l.links })
