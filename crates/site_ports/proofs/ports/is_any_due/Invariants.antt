use Rattle.std.proofs.Common.{◌↔◌, length}
use Rattle.site_ports.specs.Ports.{NothingIsDue}
use Rattle.site_ports.proofs.ports.is_any_due.Given as goal

-- what holds of all holds of the rest
abbrev pub invariant-loop-left : goal.invariant-loop-left
invariant-loop-left g l = NothingIsDue l.now l.left ↔ NothingIsDue l.now l.ports

abbrev pub decreases-loop-left : goal.decreases-loop-left
decreases-loop-left g l = length l.left
