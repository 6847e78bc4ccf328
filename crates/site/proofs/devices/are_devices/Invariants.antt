use Rattle.std.proofs.Common.{length}
use Rattle.std.specs.Prelude.{◌↔◌}
use Rattle.site.specs.Devices.{AreDevices}
use Rattle.site.proofs.devices.are_devices.Given as goal

abbrev pub decreases-loop-left : goal.decreases-loop-left
decreases-loop-left g l = length l.left

abbrev pub invariant-loop-left : goal.invariant-loop-left
invariant-loop-left g l = AreDevices l.left ↔ AreDevices l.stations
