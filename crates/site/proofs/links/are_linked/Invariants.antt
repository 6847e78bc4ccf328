use Rattle.std.proofs.Common.{◌≡◌, length}
use Rattle.site.specs.Links.{are_linked}
use Rattle.site.proofs.links.are_linked.Given as goal

abbrev pub decreases-loop-left : goal.decreases-loop-left
decreases-loop-left g l = length l.left

abbrev pub invariant-loop-left : goal.invariant-loop-left
invariant-loop-left g l = are_linked l.networks l.left ≡ are_linked l.networks l.stations
