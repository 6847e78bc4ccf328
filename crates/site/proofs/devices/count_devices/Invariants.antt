use Rattle.std.proofs.Common.{◌≡◌, length, ◌+◌, ◌≤◌}
use Rattle.site.specs.Devices.{devices}
use Rattle.site.proofs.devices.count_devices.Given as goal

abbrev pub decreases-loop-left : goal.decreases-loop-left
decreases-loop-left g l = length l.left

abbrev pub invariant-loop-left : goal.invariant-loop-left
invariant-loop-left g l = (l.count + devices l.left ≡ devices l.stations) × (l.count + length l.left ≤ length l.stations)
