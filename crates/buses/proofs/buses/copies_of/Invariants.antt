use Rattle.std.proofs.Common.{◌≡◌, map, take}
use Rattle.bus_traffic.specs.Bus.{bus_of}
use Rattle.buses.proofs.buses.copies_of.Given as goal

-- so far
abbrev pub invariant-loop-bus : goal.invariant-loop-bus
invariant-loop-bus g l = map (λ o. bus_of o) l.copies.items ≡ map (λ o. bus_of o) (take l.bus-index l.buses)
