use Rattle.std.proofs.Common.{◌≡◌, ◌++◌}
use Rattle.std.specs.Prelude.{drop}
use Rattle.std.specs.List.{flat_map}
use Rattle.site.specs.Marks.{marks_of}
use Rattle.site.proofs.marks.put_stations.Given as goal

abbrev pub invariant-loop-station : goal.invariant-loop-station
invariant-loop-station g l = l.all.items ++ flat_map marks_of (drop l.station-index l.stations) ≡ l.fn.all.items ++ flat_map marks_of l.stations
