use Rattle.std.proofs.Common.{◌≡◌, ◌++◌, length}
use Rattle.std.specs.List.{flat_map}
use Rattle.world_sites.proofs.nodes.nodes_in.Given as goal
use Rattle.world_sites.specs.Fit.{AreFit}
use Rattle.world_sites.specs.Opening.{opens}

abbrev pub decreases-loop-left : goal.decreases-loop-left
decreases-loop-left g l = length l.left

abbrev pub invariant-loop-left : goal.invariant-loop-left
invariant-loop-left g l =
    (l.out.items ++ flat_map (λ s. opens l.all s.name s.role) l.left
    ≡ flat_map (λ s. opens l.all s.name s.role) l.stations) × AreFit l.all l.left
