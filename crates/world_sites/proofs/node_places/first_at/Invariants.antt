use Rattle.world_sites.proofs.NodePlaceLaws.{ArePutBehind}
use Rattle.world_sites.proofs.node_places.first_at.Given as goal

-- the nodes from this place on were put in
abbrev pub invariant-loop-place : goal.invariant-loop-place
invariant-loop-place g l = ArePutBehind l.places l.place l.nodes

abbrev pub decreases-loop-place : goal.decreases-loop-place
decreases-loop-place g l = l.place
