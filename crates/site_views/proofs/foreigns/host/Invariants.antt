use Rattle.std.proofs.Common.{◌≡◌, ◌++◌, drop, length}
use Rattle.site_views.specs.Views as spec
use Rattle.site_views.proofs.foreigns.host.Given as goal

abbrev pub decreases-loop-left : goal.decreases-loop-left
decreases-loop-left g l = length l.left

abbrev pub invariant-loop-left : goal.invariant-loop-left
invariant-loop-left g l = spec.host l.name l.left ≡ spec.host l.name l.stations
