use Rattle.std.proofs.Common.{◌≡◌, length, map, take}
use Rattle.std.specs.List.{AllByRecursion}
use Rattle.bus_traffic.specs.Bus.{HasRoom, bus_of}
use Rattle.buses.proofs.buses.reserve_each.Given as goal

-- there is room on those that were looked at
abbrev pub invariant-loop-place : goal.invariant-loop-place
invariant-loop-place g l =
    (length l.buses ≡ length l.fn.buses)
    × (map (λ o. bus_of o) l.buses ≡ map (λ o. bus_of o) l.fn.buses)
    × AllByRecursion (λ o. HasRoom l.count o) (take l.place l.buses)
