use Rattle.std.proofs.Common.{◌≡◌, ◌++◌, drop}
use Rattle.bus_traffic.specs.Bus.{bus_of}
use Rattle.world_sites.specs.Buses.{ears_on}
use Rattle.world_sites.proofs.buses.put_all_ears.Given as goal

-- the ears of the stations that are left come behind those that it has
abbrev pub invariant-loop-station : goal.invariant-loop-station
invariant-loop-station g l =
    (record (bus_of l.bus) {
      ears = l.bus.ears.items ++ ears_on l.net (drop l.station-index l.all);
    } ≡ record (bus_of l.fn.bus) { ears = l.fn.bus.ears.items ++ ears_on l.net l.all })
