use Rattle.std.proofs.Common.{◌≡◌, length}
use Rattle.verdicts.specs.Verdicts.{issued_at}
use Rattle.verdicts.proofs.closing.issued_at.Given as goal

abbrev pub decreases-loop-left : goal.decreases-loop-left
decreases-loop-left g l = length l.left

-- what was looked at issues nothing under that number
abbrev pub invariant-loop-left : goal.invariant-loop-left
invariant-loop-left g l = issued_at l.number l.left ≡ issued_at l.number l.history
