use Rattle.std.proofs.Common.{◌≡◌, length}
use Rattle.std.specs.Prelude.{◌↔◌}
use Rattle.verdicts.proofs.same.are_same.Given as goal

abbrev pub decreases-loop-these : goal.decreases-loop-these
decreases-loop-these g l = length l.these

-- the lists are one where what is left of them is
abbrev pub invariant-loop-these : goal.invariant-loop-these
invariant-loop-these g l = (l.these ≡ l.those) ↔ (l.left ≡ l.right)
