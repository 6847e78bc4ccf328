use Rattle.std.proofs.Common.{length}
use Rattle.due_times.specs.Until.{Until}
use Rattle.site_ports.specs.Ports.{NothingIsDue}
use Rattle.site_ports.proofs.ports.next_due.Given as goal

-- what holds of the rest holds of all
abbrev pub invariant-loop-left : goal.invariant-loop-left
invariant-loop-left g l = Until l.due (λ now. NothingIsDue now l.left → NothingIsDue now l.ports)

abbrev pub decreases-loop-left : goal.decreases-loop-left
decreases-loop-left g l = length l.left
