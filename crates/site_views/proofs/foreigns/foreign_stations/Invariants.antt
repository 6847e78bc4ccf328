use Rattle.std.proofs.Common.{◌≡◌, ◌++◌, drop, length}
use Rattle.std.specs.List.{flat_map}
use Rattle.site_parts.specs.Roles.{beyond}
use Rattle.site_views.specs.Views as spec
use Rattle.site_views.proofs.foreigns.foreign_stations.Given as goal

abbrev pub invariant-loop-station : goal.invariant-loop-station
invariant-loop-station g l = l.all ++ flat_map (λ s. spec.foreign_of l.stations (beyond s.role)) (drop l.station-index l.stations) ≡ spec.foreigns l.stations
