use Rattle.std.proofs.Common.{◌≡◌, ◌+◌, length}
use Rattle.bus_traffic.specs.Finding.{has_number, place_from, place_of}
use Rattle.bus_traffic.proofs.finding.bus_place.Given as goal

-- what is found in the rest is found in all
abbrev pub invariant-loop-left : goal.invariant-loop-left
invariant-loop-left g l =
    (place_from l.place (has_number l.net) l.left ≡ place_of (has_number l.net) l.buses)
    × (l.place + length l.left ≡ length l.buses)

abbrev pub decreases-loop-left : goal.decreases-loop-left
decreases-loop-left g l = length l.left
