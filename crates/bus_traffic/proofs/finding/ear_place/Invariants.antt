use Rattle.std.proofs.Common.{◌≡◌, ◌+◌, length}
use Rattle.bus_traffic.specs.Finding.{is_of, place_from, place_of}
use Rattle.bus_traffic.proofs.finding.ear_place.Given as goal

-- what is found in the rest is found in all
abbrev pub invariant-loop-left : goal.invariant-loop-left
invariant-loop-left l =
    (place_from l.place (is_of l.address) l.left ≡ place_of (is_of l.address) l.ears)
    × (l.place + length l.left ≡ length l.ears)

abbrev pub decreases-loop-left : goal.decreases-loop-left
decreases-loop-left l = length l.left
