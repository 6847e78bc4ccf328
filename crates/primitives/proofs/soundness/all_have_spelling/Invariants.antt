use Rattle.std.proofs.Common.{length}
use Rattle.std.specs.Prelude.{◌↔◌}
use Rattle.std.specs.List.{AllByRecursion}
use Rattle.primitives.proofs.soundness.all_have_spelling.Given as goal

abbrev pub decreases-loop-left : goal.decreases-loop-left
decreases-loop-left g l = length l.left

-- all have a spelling where those that are left have one
abbrev pub invariant-loop-left : goal.invariant-loop-left
invariant-loop-left g l = AllByRecursion g.T.HasSpelling.IsSound l.left ↔ AllByRecursion g.T.HasSpelling.IsSound l.parts
