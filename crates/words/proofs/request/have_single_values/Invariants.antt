use Rattle.std.proofs.Common.{length}
use Rattle.std.specs.Prelude.{◌↔◌}
use Rattle.words.specs.NoRequests.{HaveSingleValues}
use Rattle.words.proofs.request.have_single_values.Given as goal

abbrev pub decreases-loop-left : goal.decreases-loop-left
decreases-loop-left g l = length l.left

-- all have one value where those that are left have one
abbrev pub invariant-loop-left : goal.invariant-loop-left
invariant-loop-left g l = HaveSingleValues l.left ↔ HaveSingleValues l.groups
