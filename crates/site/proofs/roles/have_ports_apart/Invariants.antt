use Rattle.std.proofs.Common.{length}
use Rattle.std.specs.Prelude.{◌↔◌}
use Rattle.site.specs.Roles.{ArePortsApart}
use Rattle.site.proofs.roles.have_ports_apart.Given as goal

abbrev pub decreases-loop-left : goal.decreases-loop-left
decreases-loop-left g l = length l.left

abbrev pub invariant-loop-left : goal.invariant-loop-left
invariant-loop-left g l = ArePortsApart l.left ↔ ArePortsApart l.stations
