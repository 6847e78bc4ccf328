use Rattle.std.proofs.Common.{length}
use Rattle.std.specs.Prelude.{◌≡◌}
use Rattle.site_tree.specs.Tree.{is_among}
use Rattle.site_tree.proofs.tree.is_among.Given as goal

abbrev pub decreases-loop-left : goal.decreases-loop-left
decreases-loop-left l = length l.left

abbrev pub invariant-loop-left : goal.invariant-loop-left
invariant-loop-left l = is_among l.number l.left ≡ is_among l.number l.numbers
