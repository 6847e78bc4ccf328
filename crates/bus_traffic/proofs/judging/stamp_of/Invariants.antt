use Rattle.std.proofs.Common.{◌≡◌, length}
use Rattle.bus_traffic.specs.Sendings.{known_of}
use Rattle.bus_traffic.proofs.judging.stamp_of.Given as goal

-- what is known by the rest is known by all
abbrev pub invariant-loop-left : goal.invariant-loop-left
invariant-loop-left g l = known_of l.octets l.left ≡ known_of l.octets l.known

abbrev pub decreases-loop-left : goal.decreases-loop-left
decreases-loop-left g l = length l.left
