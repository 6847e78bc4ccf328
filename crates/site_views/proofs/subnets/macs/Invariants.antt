use Rattle.std.proofs.Common.{◌≡◌, ◌++◌, drop, length}
use Rattle.site_views.specs.Views as spec
use Rattle.site_views.proofs.subnets.macs.Given as goal

abbrev pub invariant-loop-station : goal.invariant-loop-station
invariant-loop-station g l = l.all ++ spec.macs l.network (drop l.station-index l.stations) ≡ spec.macs l.network l.stations
