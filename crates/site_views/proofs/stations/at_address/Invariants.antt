use Rattle.std.proofs.Common.{◌≡◌, ◌++◌, drop, length}
use Rattle.site_views.specs.Views as spec
use Rattle.site_views.proofs.stations.at_address.Given as goal

abbrev pub decreases-loop-left : goal.decreases-loop-left
decreases-loop-left g l = length l.left

abbrev pub invariant-loop-left : goal.invariant-loop-left
invariant-loop-left g l = spec.at_address l.stations l.address l.left ≡ spec.at_address l.stations l.address l.stations
