use Rattle.std.proofs.Common.{◌≡◌, ◌++◌, drop, length}
use Rattle.site_views.specs.Views as spec
use Rattle.site_views.proofs.subnets.managers.Given as goal

abbrev pub invariant-loop-station : goal.invariant-loop-station
invariant-loop-station g l = l.all ++ spec.managers l.network (drop l.station-index l.stations) ≡ spec.managers l.network l.stations
