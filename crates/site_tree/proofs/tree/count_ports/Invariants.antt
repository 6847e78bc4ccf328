use Rattle.std.proofs.Common.{length}
use Rattle.std.specs.Prelude.{◌≡◌}
use Rattle.site_tree.specs.Tree.{ports}
use Rattle.std.specs.Prelude.{◌+◌, ◌*◌, ◌^◌, ◌≤◌}
use Rattle.site_tree.proofs.tree.count_ports.Given as goal

abbrev pub decreases-loop-left : goal.decreases-loop-left
decreases-loop-left g l = length l.left

abbrev pub invariant-loop-left : goal.invariant-loop-left
invariant-loop-left g l = (l.count + ports l.left ≡ ports l.stations) × ((l.count + length l.left * 2 ^ 63 ≤ length l.stations * 2 ^ 63) × (length l.left ≤ length l.stations))
