use Rattle.std.proofs.Common.{length}
use Rattle.std.specs.Prelude.{◌≡◌, map, not}
use Rattle.std.specs.List.{list_any}
use Rattle.site_tree.specs.Tree.{is_among}
use Rattle.site_parts.specs.Places.{network_of}
use Rattle.site_tree.proofs.tree.has_port_outside.Given as goal

abbrev pub decreases-loop-left : goal.decreases-loop-left
decreases-loop-left l = length l.left

abbrev pub invariant-loop-left : goal.invariant-loop-left
invariant-loop-left l = list_any (λ m. not (is_among m l.apart)) (map network_of l.left) ≡ list_any (λ m. not (is_among m l.apart)) (map network_of l.ports)
