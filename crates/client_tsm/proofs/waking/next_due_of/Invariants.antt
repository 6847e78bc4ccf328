use Rattle.std.proofs.Common.{◌≡◌, length}
use Rattle.due_times.specs.Until.{Until}
use Rattle.client_tsm.specs.Waking.{is_quiet}
use Rattle.client_tsm.proofs.waking.next_due_of.Given as goal

-- nothing was due so far
abbrev pub invariant-loop-left : goal.invariant-loop-left
invariant-loop-left g l = Until l.due (λ now. is_quiet now l.left ≡ is_quiet now l.open_ones)

abbrev pub decreases-loop-left : goal.decreases-loop-left
decreases-loop-left g l = length l.left
