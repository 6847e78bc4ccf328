use Rattle.std.proofs.Common.{◌≡◌, ◌++◌, drop, length}
use Rattle.std.specs.List.{flat_map}
use Rattle.site_views.specs.Views as spec
use Rattle.site_views.proofs.stations.addresses.Given as goal

abbrev pub invariant-loop-station : goal.invariant-loop-station
invariant-loop-station g l = l.all ++ flat_map (λ s. spec.addresses_of l.stations s.role) (drop l.station-index l.stations) ≡ spec.addresses l.stations
