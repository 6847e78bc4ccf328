use Rattle.std.proofs.Common.{◌≡◌, length}
use Rattle.site_trace.specs.Naming.{device_of}
use Rattle.site_trace.proofs.naming.device_of.Given as goal

abbrev pub invariant-loop-left : goal.invariant-loop-left
invariant-loop-left g l = device_of l.instance l.left ≡ device_of l.instance l.stations

abbrev pub decreases-loop-left : goal.decreases-loop-left
decreases-loop-left g l = length l.left
