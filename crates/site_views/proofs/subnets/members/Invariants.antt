use Rattle.std.proofs.Common.{◌≡◌, ◌++◌, drop, length}
use Rattle.site_views.specs.Views as spec
use Rattle.site_views.proofs.subnets.members.Given as goal

abbrev pub invariant-loop-station : goal.invariant-loop-station
invariant-loop-station g l = l.all ++ spec.members l.subnet (drop l.station-index l.stations) ≡ spec.members l.subnet l.stations
