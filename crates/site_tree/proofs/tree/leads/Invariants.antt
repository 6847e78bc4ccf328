use Rattle.std.proofs.Common.{length}
use Rattle.std.specs.Prelude.{◌≡◌}
use Rattle.site_tree.specs.Tree.{leads}
use Rattle.site_tree.proofs.tree.leads.Given as goal

abbrev pub decreases-loop-left : goal.decreases-loop-left
decreases-loop-left g l = length l.left

abbrev pub invariant-loop-left : goal.invariant-loop-left
invariant-loop-left g l = leads l.left l.apart l.number ≡ leads l.stations l.apart l.number
