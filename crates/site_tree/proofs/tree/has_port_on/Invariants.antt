use Rattle.std.proofs.Common.{length}
use Rattle.std.specs.Prelude.{◌≡◌, map}
use Rattle.site_tree.specs.Tree.{is_among}
use Rattle.site_parts.specs.Places.{network_of}
use Rattle.site_tree.proofs.tree.has_port_on.Given as goal

abbrev pub decreases-loop-left : goal.decreases-loop-left
decreases-loop-left l = length l.left

abbrev pub invariant-loop-left : goal.invariant-loop-left
invariant-loop-left l = is_among l.number (map network_of l.left) ≡ is_among l.number (map network_of l.ports)
