use Rattle.std.proofs.Common.{length}
use Rattle.std.specs.Prelude.{◌≡◌, ◌-◌, ◌≤◌, drop}
use Rattle.std.specs.List.{list_any}
use Rattle.site_tree.specs.Tree.{leads}
use Rattle.site_tree.proofs.tree.next_joined.Given as goal

abbrev pub decreases-loop-place : goal.decreases-loop-place
decreases-loop-place g l = length l.apart - l.place

abbrev pub invariant-loop-place : goal.invariant-loop-place
invariant-loop-place g l = (l.place ≤ length l.apart) × (list_any (leads l.stations l.apart) (drop l.place l.apart) ≡ list_any (leads l.stations l.apart) l.apart)
